pub mod Explaining
pub mod Interview
pub mod Refusals
