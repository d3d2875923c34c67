pub mod Order
pub mod Least
pub mod Search
pub mod Complete
pub mod Promise
