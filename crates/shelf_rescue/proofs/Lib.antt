-- The laws of a rescue, and what a librarian may rely on.
pub mod Marks
pub mod Copies
mod Saving
pub mod Once
pub mod Librarian
