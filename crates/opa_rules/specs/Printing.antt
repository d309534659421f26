pub mod Prints
pub mod Same
pub mod SameMeaning
pub mod Shelves
