pub mod DescribeLaws
mod FaultLaws
mod FindLaws
mod JointLaws
mod MeaningLaws
mod NearLaws
pub mod OpeningLaws
mod PrintLaws
pub mod ReviewLaws
mod SameLaws
mod ShelfLaws
mod SignLaws
mod SlipLaws
mod UnknownLaws
mod UnreadLaws
