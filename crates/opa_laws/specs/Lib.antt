pub mod Decided
pub mod Generated
pub mod Verified
