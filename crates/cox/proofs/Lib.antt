-- The laws of squares in arrays, of what is computed from them, and of the matrices.
pub mod Flats
pub mod Columns
pub mod Sums
pub mod Entries
pub mod Mirrored
pub mod Symmetric
pub mod FamilyEntries
