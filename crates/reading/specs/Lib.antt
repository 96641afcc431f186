pub mod Laws
pub mod ReadOutcomes
pub mod Readings
