pub mod Pieces
pub mod Wordings
pub mod Examples
