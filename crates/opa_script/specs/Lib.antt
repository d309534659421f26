pub mod Lines
pub mod Shapes
pub mod Commands
pub mod Replies
pub mod Examples
pub mod Laws
