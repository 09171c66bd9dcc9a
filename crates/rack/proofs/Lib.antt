-- The proofs of the rack program.
pub mod Room
pub mod Printed
