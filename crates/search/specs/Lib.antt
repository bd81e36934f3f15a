-- What the search for the smallest layout promises, step by step.
pub mod Search
