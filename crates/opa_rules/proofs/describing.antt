pub mod AlikeLaws
pub mod PlainLaws
pub mod RangeLaws
pub mod UptoLaws
