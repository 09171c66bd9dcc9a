-- The proofs of the unit.
pub mod Outcomes
pub mod Given
pub mod Followed
