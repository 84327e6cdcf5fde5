pub mod Answers
pub mod Cost
pub mod Prices
pub mod Terms
