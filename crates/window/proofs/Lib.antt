pub mod Soundness
pub mod Missing
pub mod Keeping
pub mod Places
pub mod Scan
pub mod Row
