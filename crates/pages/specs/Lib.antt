-- What the contracts of the pages cite.
pub mod Output
