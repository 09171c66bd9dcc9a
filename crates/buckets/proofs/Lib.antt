-- The proofs of the sets.
pub mod Sets
