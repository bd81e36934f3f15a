-- Document 01, "Reading", and of "What each operation refuses" the paragraph "Text".
pub mod Text
pub mod Joining
pub mod Reading
