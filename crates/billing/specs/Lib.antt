pub mod Answers
pub mod Calls
pub mod Charges
pub mod Interview
pub mod Statements
