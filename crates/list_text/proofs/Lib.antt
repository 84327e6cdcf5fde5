pub mod RowLines
pub mod Decimals
pub mod Examples
pub mod Placing
pub mod Sizes
pub mod Writing
