-- What the geometers' calls promise, and texts to try.
pub mod Squares
pub mod Points
pub mod Texts
