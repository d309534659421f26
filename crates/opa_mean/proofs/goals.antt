pub mod FreeTrees
pub mod Reaching
pub mod Filling
pub mod Knowing
pub mod Needing
pub mod NeedsKnown
