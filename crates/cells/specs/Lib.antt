pub mod Cells
pub mod Table
