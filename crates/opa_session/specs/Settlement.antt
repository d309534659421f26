pub mod Orders
pub mod Sames
pub mod Starts
pub mod Tasks
