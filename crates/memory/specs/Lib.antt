pub mod Memories
pub mod MemoryCommands
pub mod RegistersModel
pub mod ScratchpadModel
pub mod Scratchpads
