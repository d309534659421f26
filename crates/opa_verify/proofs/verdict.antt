pub mod Fining
pub mod Judged
pub mod OneVerdict
pub mod Printing
pub mod Renamed
pub mod Restated
pub mod Saying
