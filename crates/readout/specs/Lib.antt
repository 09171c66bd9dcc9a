-- What the contracts of a read cite.
pub mod Shows
