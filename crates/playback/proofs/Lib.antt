pub mod Showing
pub mod Document
