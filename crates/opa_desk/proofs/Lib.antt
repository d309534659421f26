pub mod Asking
pub mod OneOrder
pub mod OneCaseload
pub mod OneTable
pub mod OnlyLaws
