pub mod Screens
pub mod Tables
