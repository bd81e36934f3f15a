-- The laws of names.
pub mod Orders
pub mod Matching
pub mod Entries
mod Shapes
mod Neighbours
mod Patterns
pub mod OneName
pub mod Listed
pub mod NamesRight
