pub mod Records
pub mod Cells
pub mod Tables
pub mod Columns
pub mod Reading
pub mod Laws
pub mod Whole
