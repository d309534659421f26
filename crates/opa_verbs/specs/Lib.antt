pub mod Forms
pub mod Phrasing
