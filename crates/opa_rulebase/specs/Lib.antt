pub mod Printed
pub mod Loading
pub mod Checking
pub mod Files
