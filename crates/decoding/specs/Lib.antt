pub mod Bytes
pub mod Commands
pub mod Format
pub mod Inputs
pub mod Order
