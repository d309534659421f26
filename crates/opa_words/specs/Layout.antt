pub mod Lines
pub mod Indents
pub mod Faults
pub mod Blocks
pub mod Laws
