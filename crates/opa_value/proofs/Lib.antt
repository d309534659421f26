pub mod BelowLaws
pub mod Digits
pub mod HeldCounts
pub mod ReadBack
pub mod Rounding
pub mod Shortest
pub mod Spelling
pub mod TruthLaws
