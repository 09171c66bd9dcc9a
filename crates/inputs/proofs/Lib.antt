-- Laws of the stored inputs; the other folders prove a function each.
pub mod ByLane
