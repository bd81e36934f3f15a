-- The laws of nodes and references.
pub mod Ahead
mod NodeLaws
