-- Laws that belong to no one function.
pub mod Blocks
pub mod Rows
pub mod Ranking
