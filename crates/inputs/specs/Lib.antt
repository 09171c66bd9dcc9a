-- What the contracts of the inputs cite.
pub mod Bridge
