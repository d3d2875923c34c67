pub mod Nobody
pub mod Putting
