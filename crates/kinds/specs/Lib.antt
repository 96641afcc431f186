pub mod ImageMaking
pub mod Kinds
pub mod Locks
pub mod PracticePlug
pub mod PracticePlugLaws
pub mod Protection
pub mod SealedTag
pub mod SealedTagLaws
