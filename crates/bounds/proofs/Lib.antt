-- The statements of specs/, proved.
pub mod Promise
