pub mod BitQueues
pub mod Bits
pub mod Crc
pub mod NumberMaking
pub mod Refusals
pub mod RegistrationNumbers
pub mod Shifting
pub mod Widths
