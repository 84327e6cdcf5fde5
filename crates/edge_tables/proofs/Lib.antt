pub mod Sides
pub mod Rows
