pub mod Made
pub mod Sums
