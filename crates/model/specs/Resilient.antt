-- A message is taken only when r members other than 0 have it, taken or held; and with r = 0 nothing is offered: each message is
-- accepted when it is numbered. `proofs/Resilient.antt` has the proofs.
use Rattle.std.specs.Prelude.{◌≡◌, Bool, true, false, List, [], ◌∷◌, ℕ, ◌+◌, ◌-◌, ◌≤◌, ◌<◌, length, get_or, drop}
use Rattle.std.proofs.Math.Option.{some}
use Rattle.std.proofs.Math.ListN.{get_elem?}
use Rattle.group.specs.Choice.{when◌then◌else◌, ◌and◌, ◌≤?◌}
use Rattle.group.specs.Limits.{held_most}
use Rattle.member.specs.Calls.{is_ready}
use Rattle.member.specs.State.{Member, reach_of, acknowledged_of}
use Rattle.model.specs.Claim.{Opens}
use Rattle.message.specs.Order.{Ordered}
use Rattle.model.specs.Log.{order, taken, ordered_at}
use Rattle.member.specs.declared.Answer as memberAnswer
use Rattle.model.specs.World.{Event, Answer, absent, by_sequencer, by_member, Entry, World, no_member, run, fresh}
use Rattle.sequencer.specs.declared.Answer as sequencerAnswer
use Rattle.packet.specs.Packet.{poll_kind, header_of}
use Rattle.window.specs.Places as window
use Rattle.window.specs.Places.{is_held}

-- a member has the message of a number, taken or held
unfoldable pub has : Member → ℕ → Bool
has m number =
    when number ≤? m.taken.0 then true else
    (number ≤? m.taken.0 + held_most and is_held m.held number)

-- how many of a list of members have it
unfoldable pub having : List Member → ℕ → ℕ
having [] number = 0
having (m ∷ rest) number = (when has m number then 1 else 0) + having rest number

-- after every list of events, each message that a terminal took is one that r members other than 0 have; since the list up to a take
-- is such a list too, it is taken only when they have it
abbrev pub Resilient : Type 0
Resilient =
    (n number resilience : ℕ) → Opens n number resilience → (events : List Event)
    → let w : World = run (fresh n number resilience) events in
    (i s : ℕ) → i < n → 1 ≤ s → s ≤ length (taken i w.log) → resilience ≤ having (drop 1 w.group.members) s

-- what a member has under a number: the order's message of that number, which it took as such or holds
pub record HasIt (order took : List Ordered) (m : Member) (number : ℕ) : Type 0 where
  pub message : Ordered
  pub ordered : get_elem? order (number - 1) ≡ some message
  pub taken : number ≤ m.taken.0 → get_elem? took (number - 1) ≡ some message
  pub held : m.taken.0 < number → ordered_at (window.message_at m.held) number ≡ message

abbrev pub HaveTheMessage : Type 0
HaveTheMessage =
    (n number resilience : ℕ) → Opens n number resilience → (events : List Event)
    → let w : World = run (fresh n number resilience) events in
    (i s : ℕ) → i < n → 1 ≤ s → has (get_or w.group.members i no_member) s ≡ true
    → HasIt (order w.log) (taken i w.log) (get_or w.group.members i no_member) s

-- the answers that offers bring: Marked and Accepted of the sequencer, Noted of a member
unfoldable pub by_sequencer_only : sequencerAnswer.Answer → Bool
by_sequencer_only (sequencerAnswer.Answer.Refused refusal) = false
by_sequencer_only sequencerAnswer.Answer.Old = false
by_sequencer_only (sequencerAnswer.Answer.Again number) = false
by_sequencer_only sequencerAnswer.Answer.Full = false
by_sequencer_only (sequencerAnswer.Answer.Numbered number) = false
by_sequencer_only sequencerAnswer.Answer.Noted = false
by_sequencer_only (sequencerAnswer.Answer.Wanted first last) = false
by_sequencer_only sequencerAnswer.Answer.Sent = false
by_sequencer_only sequencerAnswer.Answer.Marked = true
by_sequencer_only sequencerAnswer.Answer.Accepted = true

unfoldable pub by_member_only : memberAnswer.Answer → Bool
by_member_only (memberAnswer.Answer.Refused refusal) = false
by_member_only memberAnswer.Answer.Sent = false
by_member_only (memberAnswer.Answer.Queued count) = false
by_member_only memberAnswer.Answer.Old = false
by_member_only memberAnswer.Answer.Kept = false
by_member_only memberAnswer.Answer.KeptGap = false
by_member_only memberAnswer.Answer.Beyond = false
by_member_only memberAnswer.Answer.BeyondGap = false
by_member_only memberAnswer.Answer.Gap = false
by_member_only memberAnswer.Answer.Status = false
by_member_only memberAnswer.Answer.None = false
by_member_only memberAnswer.Answer.Noted = true
by_member_only (memberAnswer.Answer.Took number originator count more) = false

unfoldable pub is_offering : Answer → Bool
is_offering absent = false
is_offering (by_sequencer answer bytes) = by_sequencer_only answer
is_offering (by_member answer bytes) = by_member_only answer

-- with r = 0 a group is as one without offers
pub record Plain (n : ℕ) (w : World) : Type 0 where
  -- each message is accepted when it is numbered
  pub accepted : w.group.sequencer.accepted ≡ w.group.sequencer.top
  -- no packet is of a kind above 5
  pub packets : (k : ℕ) (p : List ℕ) → get_elem? w.group.packets k ≡ some p → (header_of p).kind ≤ poll_kind
  -- no event is answered as offers are
  pub answers : (k : ℕ) (entry : Entry) → get_elem? w.log k ≡ some entry → is_offering entry.answer ≡ false
  -- every member acknowledges all that it reaches
  pub rows : (i : ℕ) → i < n → (acknowledged_of (get_or w.group.members i no_member)).0 ≡ reach_of (get_or w.group.members i no_member)
  -- and may take all that it holds
  pub ready : (i k : ℕ) → i < n → let m : Member = get_or w.group.members i no_member in
      m.taken.0 < k → k ≤ m.taken.0 + held_most → is_ready m k ≡ is_held m.held k

abbrev pub WithoutOffers : Type 0
WithoutOffers = (n number : ℕ) → Opens n number 0 → (events : List Event) → Plain n (run (fresh n number 0) events)
