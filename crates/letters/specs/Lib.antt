pub mod LetterMeaning
pub mod Letters
pub mod Stream
