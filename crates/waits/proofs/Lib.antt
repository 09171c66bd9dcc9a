-- Laws of the delay.
pub mod Floor
pub mod Table
