pub mod Choice
pub mod CrcRegister
pub mod Queues
