pub mod Shown
pub mod Document
