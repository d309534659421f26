pub mod Among
pub mod NameMarks
pub mod Placed
pub mod Reaching
pub mod Sought
pub mod Telling
pub mod Walking
pub mod Wanted
