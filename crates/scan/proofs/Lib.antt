-- The laws that the functions' proofs share. All but those of the run are for the callers' proofs as well.
pub mod Ranges
pub mod Rest
pub mod First
pub mod Spaces
mod Runs
pub mod Places
pub mod KeptLaws
