-- The laws of the arrays that hold a diagram, of tests that decide, and of edges in lowest terms.
pub mod Arrays
pub mod Stored
pub mod Decided
pub mod LowestTerms
