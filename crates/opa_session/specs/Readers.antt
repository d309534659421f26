pub mod Indexes
pub mod Renewals
pub mod Renewing
pub mod Touches
pub mod Waits
