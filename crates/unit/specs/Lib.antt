-- What the unit's contracts cite.
pub mod Events
pub mod Given
