-- What the contracts of the small functions cite.
pub mod Eight
