-- The laws of what is written into a buffer, of bytes compared, and of a layout's parts.
pub mod Parts
pub mod Compared
pub mod Layouts
mod Recorded
pub mod Written
