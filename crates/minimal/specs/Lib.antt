-- What the steps of the component walk promise each other.
pub mod Labels
