pub mod CallMeaning
pub mod Calls
pub mod Edges
pub mod Identity
pub mod Laws
pub mod Promises
