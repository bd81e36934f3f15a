-- Document 01, "Matrix, mirrors, families"; document 02, K7.
pub mod Generator
pub mod TrueDistances
pub mod Shown
