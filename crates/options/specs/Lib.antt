pub mod Options
pub mod Representatives
