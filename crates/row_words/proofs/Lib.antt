mod Turns
pub mod Marks
pub mod Freeing
pub mod Taking
