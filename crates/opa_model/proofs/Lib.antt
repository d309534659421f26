pub mod PhrasesLaws
pub mod SampleModels
