pub mod FileLines
pub mod Files
pub mod Layouts
