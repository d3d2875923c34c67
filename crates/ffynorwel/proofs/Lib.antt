pub mod Counts
pub mod Handed
