pub mod Breaking
pub mod Outcomes
pub mod Reading
