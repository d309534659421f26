pub mod formers
pub mod Gathering
pub mod Memory
pub mod Outside
pub mod Statuses
pub mod TextBytes
pub mod Texts
