pub mod Differences
pub mod Laws
pub mod OrderOutcomes
pub mod Orders
pub mod Writings
