pub mod ChipModel
pub mod ChipStates
pub mod Chips
pub mod Events
pub mod Histories
pub mod RomCommands
