pub mod Longevity
pub mod Noting
pub mod Putting
