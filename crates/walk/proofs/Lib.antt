pub mod Branches
pub mod Sums
pub mod Turns
pub mod Weights
pub mod Whole
