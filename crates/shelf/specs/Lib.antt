-- Ticket K1: shelf files, and what the calls on them promise.
pub mod Shelves
pub mod Checks
pub mod Finds
pub mod Bisects
pub mod Adds
