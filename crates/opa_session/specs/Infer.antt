pub mod Coming
pub mod First
pub mod Ready
pub mod Relisting
pub mod Sessions
