-- Laws that belong to no one function.
pub mod Ending
pub mod Runs
pub mod Numbers
pub mod Signs
pub mod Exponents
pub mod Powers
pub mod Words
pub mod Bounds
pub mod Decimals
