pub mod Examples
pub mod Judged
pub mod Marks
pub mod Reached
pub mod Refusals
