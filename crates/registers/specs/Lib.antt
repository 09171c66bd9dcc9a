-- The registers as the code keeps them.
pub mod Bridge
