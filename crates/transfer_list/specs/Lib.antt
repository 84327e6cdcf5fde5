pub mod Answers
pub mod Transfers
