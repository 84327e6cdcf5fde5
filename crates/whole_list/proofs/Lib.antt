pub mod Answers
pub mod Billed
pub mod Refusals
pub mod Sorted
