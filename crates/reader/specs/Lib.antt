pub mod Promise
pub mod Parts
