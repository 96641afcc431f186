pub mod Keeps
pub mod SameKind
pub mod Select
pub mod Sound
