-- Document 01, "Filing record": what is written, and what is read back.
pub mod Written
