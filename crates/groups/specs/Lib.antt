-- What sorting and grouping the nodes promise.
pub mod Groups
