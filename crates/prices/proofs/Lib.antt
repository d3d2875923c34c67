pub mod Cheaper
pub mod Worths
pub mod Levels
pub mod Joining
pub mod Paying
