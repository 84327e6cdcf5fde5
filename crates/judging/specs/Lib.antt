pub mod Answers
pub mod Calls
pub mod Examples
pub mod Marks
pub mod Reached
