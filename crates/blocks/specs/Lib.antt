-- What ranks and blocks of pairs promise.
pub mod Ranks
pub mod Blocks
