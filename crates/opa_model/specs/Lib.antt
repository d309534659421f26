pub mod Lookups
pub mod Models
pub mod Phrases
pub mod Samples
pub mod Sets
