-- Document 01, "Reading", the item "Node".
pub mod Nodes
