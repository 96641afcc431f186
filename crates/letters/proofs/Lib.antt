pub mod Letter
pub mod Parts
