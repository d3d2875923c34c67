pub mod Owing
pub mod Narrowing
pub mod Tightening
pub mod Trying
