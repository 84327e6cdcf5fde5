pub mod Answers
pub mod Calls
pub mod Interview
pub mod Nodes
pub mod Picture
pub mod Sheets
pub mod Statements
