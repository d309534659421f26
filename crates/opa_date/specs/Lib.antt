pub mod Gregorian
pub mod Laws
pub mod Moves
pub mod Texts
