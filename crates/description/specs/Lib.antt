pub mod Declarations
pub mod Invariants
pub mod Most
pub mod Meaning
