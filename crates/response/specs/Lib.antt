pub mod Events
pub mod Times
pub mod Promise
pub mod Parts
