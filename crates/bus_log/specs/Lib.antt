pub mod Span
pub mod Against
pub mod Promise
pub mod Rows
pub mod Parts
