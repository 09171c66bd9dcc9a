-- Laws of the PLL's state by its number, which the functions' proofs cite.
pub mod Modes
