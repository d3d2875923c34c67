pub mod Eight
pub mod Handed
