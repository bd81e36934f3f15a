-- Document 01, "Filing record", demand 3's sentence, and ticket K9's. N is the limit of nodes.
pub mod Fractions
pub mod Bytes
pub mod Numberings
pub mod Diagrams
pub mod Records
pub mod First
pub mod Readable
pub mod Factorials
pub mod Counts
pub mod Groups
pub mod Sequences
