-- The tests before reading, and what the walks share.
mod ReadLaws
