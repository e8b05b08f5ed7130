-- What each call promises to a program in another language: what it tells, the state that it leaves and every byte of the lent output are those of its
-- outcome, for every state, sound or not, and every input.
use Rattle.std.specs.Prelude.{◌≡◌, List, ℕ, length}
use Rattle.group.specs.Lent.{front}
use Rattle.group.specs.Wording.{Wording, verdict_wording}
use Rattle.sequencer.specs.Calls as sequencer
use Rattle.sequencer.specs.Wording as SequencerWording
use Rattle.member.specs.Calls as member
use Rattle.member.specs.Wording as MemberWording
use Rattle.states.specs.Member as MemberInPlace
use Rattle.states.specs.Sequencer as SequencerInPlace
use Rattle.states.specs.declared.Member.{Member}
use Rattle.states.specs.declared.Sequencer.{Sequencer}
use Rattle.ends.specs.Telling.{told_of}
use Rattle.ends.specs.declared.Told.{Told}

-- what a call tells and lays: its answer by its wording, and its bytes at the front of the lent output
pub record Tells (answer : Wording) (bytes : List ℕ) (told : Told) (before after : List ℕ) : Type 0 where
  pub says : told ≡ told_of answer (length bytes)
  pub lays : after ≡ front bytes before

-- of an outcome of either end
abbrev SequencerTells : sequencer.Outcome → Told → List ℕ → List ℕ → Type 0
SequencerTells o told before after = Tells (SequencerWording.wording_of o.answer) o.bytes told before after

abbrev MemberTells : member.Outcome → Told → List ℕ → List ℕ → Type 0
MemberTells o told before after = Tells (MemberWording.wording_of o.answer) o.bytes told before after

-- and the state that a call leaves, which is its outcome's
abbrev SequencerLeaves : sequencer.Outcome → Told → Sequencer → List ℕ → List ℕ → Type 0
SequencerLeaves o told s before after = SequencerTells o told before after × (SequencerInPlace.view_of s ≡ o.sequencer)

abbrev MemberLeaves : member.Outcome → Told → Member → List ℕ → List ℕ → Type 0
MemberLeaves o told s before after = MemberTells o told before after × (MemberInPlace.view_of s ≡ o.member)

-- the sequencer's calls: the state and what it is handed at entry, what it tells, the state and the lent output at exit
abbrev pub SequencerOpens : Sequencer → ℕ → ℕ → ℕ → Told → Sequencer → Type 0
SequencerOpens s n group resilience told s' =
    (told ≡ told_of (verdict_wording (sequencer.fresh_of n group resilience).verdict) 0) × (SequencerInPlace.view_of s' ≡ (sequencer.fresh_of n group resilience).sequencer)

abbrev pub SequencerReceives : Sequencer → List ℕ → List ℕ → Told → Sequencer → List ℕ → Type 0
SequencerReceives s packet before told s' after = SequencerLeaves (sequencer.receive_of (SequencerInPlace.view_of s) packet (length before)) told s' before after

abbrev pub SequencerPolls : Sequencer → List ℕ → Told → List ℕ → Type 0
SequencerPolls s before told after = SequencerTells (sequencer.poll_of (SequencerInPlace.view_of s) (length before)) told before after

abbrev pub SequencerCopies : Sequencer → ℕ → List ℕ → Told → List ℕ → Type 0
SequencerCopies s number before told after =
    SequencerTells (sequencer.copy_of (SequencerInPlace.view_of s) (record { 0 = number }) (length before)) told before after

-- a member's calls
abbrev pub MemberOpens : Member → ℕ → ℕ → ℕ → ℕ → Told → Member → Type 0
MemberOpens s n number group resilience told s' =
    (told ≡ told_of (verdict_wording (member.fresh_of n (record { 0 = number }) group resilience).verdict) 0)
    × (MemberInPlace.view_of s' ≡ (member.fresh_of n (record { 0 = number }) group resilience).member)

abbrev pub MemberSubmits : Member → List ℕ → List ℕ → Told → Member → List ℕ → Type 0
MemberSubmits s payload before told s' after = MemberLeaves (member.submit_of (MemberInPlace.view_of s) payload (length before)) told s' before after

abbrev pub MemberReceives : Member → List ℕ → List ℕ → Told → Member → List ℕ → Type 0
MemberReceives s packet before told s' after = MemberLeaves (member.receive_of (MemberInPlace.view_of s) packet (length before)) told s' before after

abbrev pub MemberTakes : Member → List ℕ → Told → Member → List ℕ → Type 0
MemberTakes s before told s' after = MemberLeaves (member.take_of (MemberInPlace.view_of s) (length before)) told s' before after

abbrev pub MemberRepeats : Member → List ℕ → Told → List ℕ → Type 0
MemberRepeats s before told after = MemberTells (member.repeat_of (MemberInPlace.view_of s) (length before)) told before after

abbrev pub MemberReports : Member → List ℕ → Told → List ℕ → Type 0
MemberReports s before told after = MemberTells (member.status_of (MemberInPlace.view_of s) (length before)) told before after
