pub mod Bound
pub mod Fitting
pub mod Forecast
pub mod Interview
pub mod Nodes
pub mod Paths
pub mod Refusals
pub mod Rooms
