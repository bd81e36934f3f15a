-- Document 01, "Matrix, mirrors, families".
pub mod Reflections
pub mod Shown
