-- The laws of reading: the loop over the text, the queue, and the edges kept.
mod JoinLaws
pub mod KeptEdges
mod Turns
pub mod Outcomes
