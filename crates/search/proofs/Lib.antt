-- Laws that belong to no one function.
pub mod Lists
pub mod Sides
pub mod Counting
pub mod Laid
pub mod Candidates
pub mod Later
pub mod Steps
pub mod Passing
pub mod Whole
