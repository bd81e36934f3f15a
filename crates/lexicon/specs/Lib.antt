-- What the public calls promise, finite lengths, and the texts that document 01 tells of.
pub mod Reads
pub mod Files
pub mod ReadsRecord
pub mod Answers
pub mod Lengths
pub mod All
pub mod Texts
