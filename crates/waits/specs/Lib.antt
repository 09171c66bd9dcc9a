-- What the contracts of the delay cite.
pub mod Floor
