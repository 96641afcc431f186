pub mod Exchanges
pub mod Jobs
pub mod Laws
pub mod Outcomes
pub mod Selection
