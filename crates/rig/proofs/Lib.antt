pub mod Unpowered
