-- The laws of components and of rings.
pub mod Paths
pub mod Labelling
mod Links
mod Rings
