pub mod Walk
pub mod Accepting
pub mod Sound
pub mod KeptMet
