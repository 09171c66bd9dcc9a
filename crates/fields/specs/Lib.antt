-- What the contracts of the fields cite.
pub mod Bridge
