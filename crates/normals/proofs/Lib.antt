-- The laws of columns, and the theorems on refusals and on what mirrors depend on.
pub mod Columns
pub mod Refusals
pub mod Triangle
