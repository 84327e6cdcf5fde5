pub mod Billing
pub mod WholeList
