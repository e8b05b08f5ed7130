pub mod Zero
pub mod Kept
pub mod Owning
pub mod Laying
