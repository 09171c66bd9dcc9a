-- What the rack program's contract says.
pub mod Front
pub mod Read
