-- What the contracts of the sets cite.
pub mod Bridge
