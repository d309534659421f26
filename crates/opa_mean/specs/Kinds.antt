pub mod Conditions
pub mod Laws
pub mod Membership
pub mod Memberships
