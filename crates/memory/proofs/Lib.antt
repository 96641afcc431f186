pub mod Calm
pub mod Keeps
pub mod Ready
pub mod Sent
pub mod Sound
