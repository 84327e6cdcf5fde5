pub mod Statuses
pub mod Values
