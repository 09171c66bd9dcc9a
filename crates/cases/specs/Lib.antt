-- The documents' worked cases and what two requests are for, as statements. Each is proved in the file of proofs/ with the same name.
pub mod Trials
pub mod ExampleSheet
pub mod ExamplePage
pub mod KeptValue
pub mod AutomaticStart
