pub mod Answers
mod SoundNodes
pub mod Tidy
pub mod Sound
pub mod Fileable
pub mod OneAnswer
pub mod Demand3
pub mod Wishes
pub mod Mending
pub mod Marks
mod FewNodes
pub mod TextsRight
