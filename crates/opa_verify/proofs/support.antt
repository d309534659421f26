pub mod Concluding
pub mod Going
pub mod Ledging
pub mod Orderly
pub mod Reporting
pub mod Singling
pub mod Telling
pub mod Upholding
