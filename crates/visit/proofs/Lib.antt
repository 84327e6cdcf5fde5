pub mod Cases
pub mod Classes
pub mod Counters
pub mod Defined
pub mod Drawing
pub mod Orders
pub mod Rows
