-- What each call of a terminal promises to a program in another language: what it tells, what is seen of the terminal that it leaves and every byte of
-- the lent output are those of its outcome, for every terminal, sound or not, and every input.
use Rattle.std.specs.Prelude.{◌≡◌, List, ℕ, length}
use Rattle.group.specs.Wording.{verdict_wording}
use Rattle.member.specs.Wording as member
use Rattle.sequencer.specs.Wording as sequencer
use Rattle.recovery.specs.Calls.{submit_of, receive_of, take_of, repeat_of, status_of, invite_of, make_of, order_of, poll_of, copy_of}
use Rattle.recovery.specs.Promise.{Seen, SequencerSeen, called, ordered}
use Rattle.recovery.specs.View.{seen}
use Rattle.terminal_opening.specs.Opening.{fresh_of}
use Rattle.terminal_state.specs.Terminal.{view_of}
use Rattle.terminal_state.specs.declared.Terminal.{Terminal}
use Rattle.ends.specs.Promise.{Tells}
use Rattle.ends.specs.Telling.{told_of}
use Rattle.ends.specs.declared.Told.{Told}

-- what is told of an outcome, of the member's calls and of the sequencer's
abbrev MemberTells : Seen → Told → List ℕ → List ℕ → Type 0
MemberTells o told before after = Tells (member.wording_of o.answer) o.bytes told before after

abbrev SequencerTells : SequencerSeen → Told → List ℕ → List ℕ → Type 0
SequencerTells o told before after = Tells (sequencer.wording_of o.answer) o.bytes told before after

-- and what is seen of the terminal that a call leaves, which is its outcome's
abbrev MemberLeaves : Seen → Told → Terminal → List ℕ → List ℕ → Type 0
MemberLeaves o told t before after = MemberTells o told before after × (view_of t ≡ o.view)

abbrev SequencerLeaves : SequencerSeen → Told → Terminal → List ℕ → List ℕ → Type 0
SequencerLeaves o told t before after = SequencerTells o told before after × (view_of t ≡ o.view)

-- the member's calls: the terminal and what it is handed at entry, what it tells, the terminal and the lent output at exit
abbrev pub Opens : Terminal → ℕ → ℕ → ℕ → ℕ → Told → Terminal → Type 0
Opens t n number group resilience told t' =
    (told ≡ told_of (verdict_wording (fresh_of n (record { 0 = number }) group resilience).verdict) 0)
    × (view_of t' ≡ seen (fresh_of n (record { 0 = number }) group resilience).terminal)

abbrev pub Submits : Terminal → List ℕ → List ℕ → Told → Terminal → List ℕ → Type 0
Submits t payload before told t' after = MemberLeaves (called (λ x. submit_of x payload (length before)) (view_of t)) told t' before after

abbrev pub Receives : Terminal → List ℕ → List ℕ → Told → Terminal → List ℕ → Type 0
Receives t packet before told t' after = MemberLeaves (called (λ x. receive_of x packet (length before)) (view_of t)) told t' before after

abbrev pub Takes : Terminal → List ℕ → Told → Terminal → List ℕ → Type 0
Takes t before told t' after = MemberLeaves (called (λ x. take_of x (length before)) (view_of t)) told t' before after

abbrev pub Repeats : Terminal → List ℕ → Told → List ℕ → Type 0
Repeats t before told after = MemberTells (called (λ x. repeat_of x (length before)) (view_of t)) told before after

abbrev pub Reports : Terminal → List ℕ → Told → List ℕ → Type 0
Reports t before told after = MemberTells (called (λ x. status_of x (length before)) (view_of t)) told before after

abbrev pub Invites : Terminal → ℕ → List ℕ → Told → Terminal → List ℕ → Type 0
Invites t number before told t' after = MemberLeaves (called (λ x. invite_of x number (length before)) (view_of t)) told t' before after

abbrev pub Makes : Terminal → ℕ → List ℕ → Told → Terminal → List ℕ → Type 0
Makes t demand before told t' after = MemberLeaves (called (λ x. make_of x demand (length before)) (view_of t)) told t' before after

-- the sequencer's
abbrev pub Orders : Terminal → List ℕ → List ℕ → Told → Terminal → List ℕ → Type 0
Orders t packet before told t' after = SequencerLeaves (ordered (λ x. order_of x packet (length before)) (view_of t)) told t' before after

abbrev pub Polls : Terminal → List ℕ → Told → List ℕ → Type 0
Polls t before told after = SequencerTells (ordered (λ x. poll_of x (length before)) (view_of t)) told before after

abbrev pub Copies : Terminal → ℕ → List ℕ → Told → List ℕ → Type 0
Copies t number before told after = SequencerTells (ordered (λ x. copy_of x (record { 0 = number }) (length before)) (view_of t)) told before after
