pub mod LineLaws
pub mod IndentLaws
pub mod BlockLaws
pub mod LayLaws
pub mod OneLayout
pub mod ShortLaws
