pub mod RigModel
pub mod Rigs
