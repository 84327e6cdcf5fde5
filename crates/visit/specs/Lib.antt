pub mod Lent
pub mod Laws
pub mod Tables
pub mod Visits
