pub mod Digits
pub mod Split
pub mod Pieces
pub mod Decimal
pub mod Hex
pub mod Laws
pub mod Examples
