-- What the contracts of the text cite.
pub mod Text
