pub mod Arrays
pub mod Ascending
pub mod Bits
pub mod Draws
pub mod Lists
pub mod Options
pub mod Orders
pub mod Results
