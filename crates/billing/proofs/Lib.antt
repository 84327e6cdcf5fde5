pub mod Costs
pub mod Interview
pub mod Refusals
pub mod Billing
