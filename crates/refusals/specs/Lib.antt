-- The numbers that the documents give the refusals.
pub mod Number
