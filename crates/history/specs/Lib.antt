-- From the code's structs to the rules.
pub mod Bridge
