mod AtHand
mod Changing
mod Leaving
mod LoadLaws
mod ReadLaws
mod ReplyLaws
mod Same
mod Saving
mod Settling
pub mod OneReply
