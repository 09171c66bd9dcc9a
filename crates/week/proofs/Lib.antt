-- Laws of windows, which the proofs cite.
pub mod Windows
pub mod Made
pub mod Storing
