-- What the contracts of the state, and of what changes it, cite.
pub mod Stored
