pub mod Asked
pub mod Only
pub mod Promises
