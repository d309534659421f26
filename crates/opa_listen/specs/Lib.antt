pub mod Days
pub mod Words
pub mod Hearing
pub mod Listening
pub mod Telling
