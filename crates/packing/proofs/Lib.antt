pub mod Digits
pub mod Floors
