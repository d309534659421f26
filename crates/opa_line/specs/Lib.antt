pub mod Differences
pub mod Growth
pub mod Holding
pub mod Laws
pub mod Lines
pub mod Pairs
pub mod Pointwise
pub mod Walks
