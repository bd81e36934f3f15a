-- Document 01, "Matrix, mirrors, families".
pub mod Mirrors
pub mod Shown
