-- What the contracts of the selection cite.
pub mod Bridge
