-- Laws that the proofs share.
pub mod Putting
pub mod Columns
pub mod Rows
