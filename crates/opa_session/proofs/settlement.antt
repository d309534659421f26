pub mod Adding
pub mod Marking
pub mod MarkingLive
pub mod Tasking
pub mod Answered
pub mod Changed
pub mod Settles
