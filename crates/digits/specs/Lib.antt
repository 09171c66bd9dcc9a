-- What the contracts of the digits cite.
pub mod Puts
