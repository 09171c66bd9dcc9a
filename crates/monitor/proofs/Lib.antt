-- Laws of the rows; the other folders prove a function each.
pub mod Rows
