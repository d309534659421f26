pub mod Circles
pub mod Faults
pub mod Found
pub mod KindSets
pub mod Laws
pub mod Refused
pub mod RowScopes
pub mod Settled
