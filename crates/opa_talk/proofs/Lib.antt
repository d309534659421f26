pub mod EndLaws
pub mod FeedLaws
pub mod KeptLaws
pub mod LinesLaws
pub mod PointsLaws
pub mod RoseLaws
pub mod StatusLaws
pub mod TranscriptLaws
