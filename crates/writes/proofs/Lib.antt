-- Laws of writes, which the functions' proofs cite.
pub mod Writes
