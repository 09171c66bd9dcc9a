-- What the contracts of a tick cite.
pub mod Handed
