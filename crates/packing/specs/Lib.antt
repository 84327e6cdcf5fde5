pub mod Floors
pub mod Packing
