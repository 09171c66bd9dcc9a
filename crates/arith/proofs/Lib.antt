-- Laws that several crates' proofs use.
pub mod Laws
pub mod Signed
