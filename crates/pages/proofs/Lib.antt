-- Laws that the proofs share.
pub mod Lines
pub mod Turns
