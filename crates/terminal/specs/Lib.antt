pub mod Take
pub mod Wording
pub mod Log
pub mod Left
pub mod Laws
