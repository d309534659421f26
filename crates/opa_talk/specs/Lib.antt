pub mod Halt
pub mod Ended
pub mod Lines
pub mod Points
pub mod Talk
pub mod Transcript
pub mod WholeInput
