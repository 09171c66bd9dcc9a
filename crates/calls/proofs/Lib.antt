-- The proofs of the calls.
pub mod Concerned
pub mod Decoded
