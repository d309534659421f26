pub mod Days
pub mod Goals
pub mod Questions
pub mod ReportLaws
