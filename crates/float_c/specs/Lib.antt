-- What C gets where the float layer answers with an option.
pub mod Export
