-- Document 01, "Matrix, mirrors, families".
pub mod Squares
pub mod Matrix
pub mod Families
pub mod Shown
