pub mod Chain
pub mod Found
pub mod Parts
pub mod Quiet
pub mod Steps
pub mod Truth
