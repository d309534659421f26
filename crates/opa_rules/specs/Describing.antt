pub mod Alike
pub mod Description
pub mod Parts
pub mod Ranges
