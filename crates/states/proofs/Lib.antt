pub mod SequencerLends
pub mod SequencerLeaving
pub mod MemberLends
pub mod MemberLeaving
