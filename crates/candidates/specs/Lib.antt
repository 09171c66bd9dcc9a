-- What the contracts of the candidates cite.
pub mod Keys
