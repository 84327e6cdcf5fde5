pub mod Answers
pub mod Apart
pub mod Calls
pub mod Chain
pub mod DrawsListEveryRow
pub mod Interview
