pub mod Drops
pub mod Entries
pub mod Nexts
pub mod Owners
pub mod Stores
