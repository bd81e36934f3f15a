-- The laws of lines and blocks of them, of what is added to the answers, and of numerals.
pub mod Ends
pub mod Blocks
pub mod Writing
pub mod Decimals
