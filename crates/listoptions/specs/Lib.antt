pub mod Making
pub mod Printed
