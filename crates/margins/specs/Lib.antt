pub mod Margins
pub mod Shares
