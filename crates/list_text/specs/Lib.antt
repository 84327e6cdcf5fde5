pub mod Lines
pub mod RowLines
pub mod Statements
