-- Demands 2 and 3, #102 and #104 to #107 of the unit itself.
pub mod Service
