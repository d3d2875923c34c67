pub mod Lists
pub mod Same
pub mod Promise
pub mod Order
pub mod Parts
