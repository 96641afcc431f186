pub mod Laws
pub mod Passes
pub mod SearchOutcomes
pub mod Searches
pub mod Triplets
