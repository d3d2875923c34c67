pub mod Accepted
pub mod Accept
pub mod Partial
