pub mod Answers
pub mod Joining
pub mod Meeting
pub mod RowWords
pub mod Rows
pub mod Surveys
