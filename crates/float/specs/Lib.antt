-- Document 01's doubles, in the order of the paper: numbers, constants, literals, cosine, root.
pub mod Pick
pub mod Numbers
pub mod Constants
pub mod Decimal
pub mod Cosine
pub mod Root
