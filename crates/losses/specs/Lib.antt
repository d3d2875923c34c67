pub mod Losses
pub mod Parts
