pub mod Store
pub mod Settlement
pub mod Readers
pub mod Telling
pub mod Infer
