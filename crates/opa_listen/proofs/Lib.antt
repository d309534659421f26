pub mod Dated
pub mod HearingLaws
pub mod Keeping
pub mod Readiness
pub mod ToldLaws
