-- Laws of tables, which the proofs cite.
pub mod Bytes
pub mod Checks
pub mod Stored
