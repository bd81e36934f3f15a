-- The promise of `names` leaves nothing free.
pub mod OneAnswer
pub mod ByTests
pub mod TextsRight
