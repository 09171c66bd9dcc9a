-- Laws of keys, of tests and of masks, which the functions' proofs cite.
pub mod Keys
pub mod Candidates
pub mod Ones
