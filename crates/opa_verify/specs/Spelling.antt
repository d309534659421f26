pub mod Cuts
pub mod Dated
pub mod Laws
pub mod Lines
pub mod Printed
pub mod Reading
pub mod Same
pub mod Spelling
