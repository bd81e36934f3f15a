-- Document 01, "Reading": bytes, spaces, edges.
pub mod Ascii
pub mod Bytes
pub mod Spaces
pub mod Edges
pub mod Kept
