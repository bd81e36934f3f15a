-- What a renumbering carries, and ticket K11 of the promises.
mod Carried
mod EdgeCount
mod Names
pub mod EqualRecords
