pub mod Examples
pub mod Printing
