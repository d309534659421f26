pub mod FirstListing
mod TableLaws
