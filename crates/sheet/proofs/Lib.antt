-- The proofs of the run sheet, and what others' proofs use of it.
pub mod Events
