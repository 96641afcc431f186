pub mod Blending
pub mod Programming
pub mod Protection
