pub mod ClapLaws
pub mod AskedLaws
