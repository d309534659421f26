pub mod Fine
pub mod Judging
pub mod Laws
pub mod Named
pub mod Naming
pub mod OfCases
pub mod Restating
pub mod Telling
