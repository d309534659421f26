pub mod Asking
pub mod Goals
pub mod Laws
pub mod Reports
pub mod Shown
pub mod Stats
