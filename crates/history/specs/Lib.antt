pub mod State
pub mod Sound
pub mod Note
pub mod Repeat
pub mod Ask
pub mod View
pub mod Marks
