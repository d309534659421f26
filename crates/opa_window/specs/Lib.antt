pub mod Days
pub mod Folds
pub mod Laws
pub mod Marks
pub mod Runs
pub mod Stretches
pub mod Tables
pub mod Windows
