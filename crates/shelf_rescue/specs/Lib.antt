-- Ticket K12: the rescue of a shelf file.
pub mod Rescues
pub mod Damage
