pub mod Free
pub mod Part
pub mod Joined
