pub mod Instances
pub mod Keys
pub mod Rows
pub mod Unordered
pub mod Lending
