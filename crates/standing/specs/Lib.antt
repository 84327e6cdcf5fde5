pub mod Answers
pub mod Interview
pub mod Reasons
pub mod Statements
