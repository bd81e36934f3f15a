-- Document 01, "Nodes and edges", and what a diagram is.
pub mod Letters
pub mod Edges
pub mod References
pub mod Refusals
pub mod Arrays
pub mod Diagrams
pub mod Paths
pub mod Minimal
