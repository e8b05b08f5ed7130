pub mod Choice
pub mod Fold
pub mod Lists
pub mod Question
pub mod Wording
pub mod Counting
pub mod Members
pub mod Expected
