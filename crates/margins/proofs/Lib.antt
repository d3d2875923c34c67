pub mod Leaving
pub mod Due
