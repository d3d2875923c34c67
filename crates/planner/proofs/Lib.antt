mod Completing
pub mod Order
pub mod Gone
pub mod Room
mod Columns
pub mod Least
pub mod Parting
pub mod Promise
pub mod Unique
pub mod Again
pub mod Seek
