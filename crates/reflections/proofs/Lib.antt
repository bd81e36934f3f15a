-- The laws of matrices made one by one.
pub mod Matrices
