-- What a call for C tells and shows.
pub mod Outcomes
pub mod Shown
