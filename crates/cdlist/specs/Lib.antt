-- Document 01, "Texts to try", the program `cdlist`.
pub mod Lists
