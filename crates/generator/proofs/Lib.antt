-- The laws of node values, of the system's solution, and of the first infinite value.
mod Rows
pub mod Infinite
