-- The unit itself, over whole histories.
pub mod Service
