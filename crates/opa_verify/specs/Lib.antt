pub mod Listed
pub mod Support
pub mod Spelling
pub mod Verdict
