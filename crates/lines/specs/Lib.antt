-- Document 01, "Texts to try", what it says of the program `cdlist`; document 02, K6, the programs' argument.
pub mod Lines
pub mod Blocks
pub mod Written
pub mod Arguments
