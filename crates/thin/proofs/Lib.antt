-- A unit that is lent: as it lies (Lent), its arrays lent on to a call (Lending), a function that is lent one (Exported, Thin), and the walks of the four forms
-- that the exported functions have.
pub mod Exported
pub mod Lending
pub mod Lent
pub mod Looks
pub mod Makes
pub mod Passes
pub mod Stores
pub mod Thin
