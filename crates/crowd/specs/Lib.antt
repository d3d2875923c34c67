pub mod Crowd
pub mod Walk
