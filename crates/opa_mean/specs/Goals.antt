pub mod Asked
pub mod Freedom
pub mod Laws
pub mod Rulebases
pub mod States
pub mod Stretches
pub mod Tables
