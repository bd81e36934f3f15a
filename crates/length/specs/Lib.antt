-- Document 01, "Lengths in parentheses".
pub mod Literals
pub mod Kept
