pub mod Texts
pub mod Points
pub mod Spelled
pub mod Readers
pub mod Laws
pub mod Samples
pub mod Pointed
pub mod Screen
