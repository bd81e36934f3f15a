-- The theory of filing records, each law for the proofs of other crates as well.
pub mod Gcd
pub mod Bytes
pub mod Order
pub mod Numberings
pub mod Layouts
pub mod Places
pub mod Filing
pub mod Searching
pub mod First
pub mod Readback
pub mod LaidOut
pub mod Sums
pub mod Groups
pub mod Sequences
