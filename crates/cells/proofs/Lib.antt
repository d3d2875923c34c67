pub mod Starts
pub mod Marks
pub mod Owners
