pub mod Terms
pub mod Early
pub mod Cells
pub mod Gaps
pub mod Sum
pub mod Tallies
pub mod Five
