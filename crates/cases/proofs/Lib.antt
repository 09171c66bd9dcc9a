-- The statements of specs/, proved by running the rules.
pub mod Trials
pub mod ExampleSheet
pub mod ExamplePage
pub mod KeptValue
pub mod AutomaticStart
