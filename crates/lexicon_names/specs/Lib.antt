-- Ticket K4: the promise of `names`, and texts to try.
pub mod NamesText
pub mod Texts
