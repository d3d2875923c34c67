pub mod Meets
pub mod Covering
pub mod Tables
pub mod Striking
