pub mod Same
pub mod Formed
mod Walk
mod Copying
mod Joining
