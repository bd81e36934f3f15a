-- The whole output of `cdlist`.
mod Whole
