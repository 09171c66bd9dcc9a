-- The promise of service on three histories, as statements.
pub mod Promise
