pub mod Numbers
pub mod Weights
