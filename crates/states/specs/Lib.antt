pub mod Sequencer
pub mod Member
