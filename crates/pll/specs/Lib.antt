-- The PLL's state as the code keeps it.
pub mod Bridge
