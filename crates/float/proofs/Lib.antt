-- The laws that the functions' proofs share, and the theorems on literals, quotients and the root.
mod Table
mod Powers
mod Exactly
pub mod RoundedOnce
pub mod FiniteValues
pub mod Quotients
mod Units
mod Ties
mod Values
mod NearestRoot
mod MachineRoot
