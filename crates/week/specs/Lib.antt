-- What the contracts of the week cite.
pub mod Bridge
