-- Document 01, "Filing record" and "Reading a record": what a record is read back as.
pub mod Spelled
pub mod ReadBack
pub mod Steps
