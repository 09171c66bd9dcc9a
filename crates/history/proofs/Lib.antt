-- Laws that the proofs share.
pub mod Kept
pub mod Shift
