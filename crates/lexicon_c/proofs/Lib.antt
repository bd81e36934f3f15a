-- Why values have bits, how many entries reflections have, what is told; and of the calls for C demand 3, the law of mending, one answer of a file and of a naming, and equal articles.
mod Valued
mod Entries
mod Telling
pub mod Demand3
pub mod Mending
pub mod Shelves
pub mod Naming
pub mod Articles
