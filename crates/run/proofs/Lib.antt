-- The proofs of a sheet's run.
pub mod Parts
pub mod Turns
pub mod Ran
