pub mod Dropped
pub mod Entering
pub mod Leaving
pub mod Listing
pub mod Nexting
pub mod Owning
pub mod Storing
pub mod Telling
