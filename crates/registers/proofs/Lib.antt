-- Laws of the registers' table and of their slots, which the proofs cite.
pub mod Table
pub mod Slots
pub mod Fresh
