-- From what the code holds to what the calls promise; that the edges as typed would show the same; where the second generator lies; and that the texts to try are right.
pub mod Shapes
pub mod AsTyped
pub mod HalfValues
pub mod TextsRight
