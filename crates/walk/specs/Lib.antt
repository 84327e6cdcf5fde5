pub mod Turning
pub mod Walking
