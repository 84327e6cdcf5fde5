pub mod Answering
pub mod Apart
pub mod Chained
pub mod DrawsListEveryRow
pub mod Interview
pub mod Refusals
