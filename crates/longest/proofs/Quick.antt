-- What a list of events leaves of a group, worked out without question 1: every state that a list reaches is sound, so the bytes
-- behind its payloads need not be looked at. Assumes nothing.
use mathlib.Core.Path.{◌≡◌, refl, ap, ◌∙◌}
use mathlib.Core.Bool.{Bool, true, false}
use mathlib.Core.Option.{Option, none, some}
use mathlib.Core.List.{List, [], ◌∷◌}
use Prim.Native.Nat.{ℕ, ◌+◌, ◌≤◌}
use native.Mathlib.Omega.{arith}
use borrow.Author.Tests.{ltb-true}
use lib.ListN.{length, get_or, get_elem?}
use Rattle.group.specs.Choice.{when◌then◌else◌, ◌<?◌, ◌=?◌}
use Rattle.group.specs.Limits.{members_most, longest_packet, largest_number}
use Rattle.group.specs.Question.{judged}
use Rattle.group.specs.declared.Group as description
use Rattle.member.proofs.Closing.{call_accepted}
use Rattle.member.specs.Calls as member
use Rattle.member.specs.Sound as member_sound
use Rattle.member.specs.declared.Answer as memberAnswer
use Rattle.member.specs.State.{Member}
use Rattle.model.proofs.Invariant.{WorldInv}
use Rattle.model.proofs.Step.{next_keeps}
use Rattle.model.specs.World.{Event, submit, repeat, status, poll, copy, hand_member, hand_sequencer, Group, Happened, missing, with_member, with_sequencer, no_member, at_member, hand_to_member, hand_to_sequencer, happen, World, step, run}
use Rattle.model.specs.World as world
use Rattle.packet.specs.Packet.{payload_at, read_of, written}
use Rattle.sequencer.specs.Calls as sequencer
use Rattle.sequencer.specs.Sound as sequencer_sound
use Rattle.sequencer.specs.State.{Sequencer}
use Rattle.window.specs.Places.{message_at}

-- the calls of a sound member that is lent the longest packet's room
abbrev submit_past : Member → List ℕ → member.Outcome
submit_past m payload =
    judged (member.submit_verdict m (length payload)) (member.refused m)
    (when m.waiting =? 0
    then record { member = member.with_waiting m payload; answer = memberAnswer.Answer.Sent; bytes = member.request_packet (member.with_waiting m payload) }
    else member.answered (member.with_waiting m payload) (memberAnswer.Answer.Queued (m.submitted + 1)))

abbrev take_past : Member → member.Outcome
take_past m =
    when member.is_ready m (m.taken.0 + 1) then member.took_of m (message_at m.held (m.taken.0 + 1)) else
    member.answered m memberAnswer.Answer.None

abbrev status_past : Member → member.Outcome
status_past m = record { member = m; answer = memberAnswer.Answer.Sent; bytes = member.status_packet m }

abbrev receive_past : List ℕ → Member → member.Outcome
receive_past packet m = member.read_step m (read_of packet) (payload_at packet)

-- what an event leaves; those that a list of this crate does not have are taken as they are
abbrev member_past : Group → ℕ → Option (List ℕ) → Happened
member_past g i none = missing g
member_past g i (some packet) = at_member g i (receive_past packet)

abbrev sequencer_past : Group → Option (List ℕ) → Happened
sequencer_past g none = missing g
sequencer_past g (some packet) = with_sequencer g (sequencer.read_step g.sequencer (read_of packet) (payload_at packet))

unfoldable pub past : Group → Event → Happened
past g (submit i payload) = at_member g i (λ m. submit_past m payload)
past g (repeat i) = happen g (repeat i)
past g (world.take i) = when i <? length g.members then with_member g i (take_past (get_or g.members i no_member)) [] else missing g
past g (status i) = at_member g i status_past
past g poll = happen g poll
past g (copy number) = happen g (copy number)
past g (hand_member k i) = member_past g i (get_elem? g.packets k)
past g (hand_sequencer k) = sequencer_past g (get_elem? g.packets k)

-- a list of events
unfoldable pub leaves : Group → List Event → Group
leaves g [] = g
leaves g (e ∷ es) = leaves (past g e).group es

-- a choice whose first way is the same
when_first : {A B : Type 0} (t : Bool) (f : A → B) (x y : A) (d : B) → (t ≡ true → x ≡ y) → (when t then f x else d) ≡ (when t then f y else d)
unfolding when◌then◌else◌
when_first true f x y d h = ap f (h refl)
when_first false f x y d h = refl

-- a member's calls
module _ (m : Member) (h : member_sound.sound_of m ≡ true) where
  submit_past_lem : (payload : List ℕ) → member.submit_of m payload longest_packet ≡ submit_past m payload
  unfolding member.submit_of judged
  submit_past_lem payload = rw (call_accepted m h)

  take_past_lem : member.take_of m longest_packet ≡ take_past m
  unfolding member.take_of judged
  take_past_lem = rw (call_accepted m h)

  status_past_lem : member.status_of m longest_packet ≡ status_past m
  unfolding member.status_of judged
  status_past_lem = rw (call_accepted m h)

  receive_past_lem : (packet : List ℕ) → member.receive_of m packet longest_packet ≡ receive_past packet m
  unfolding member.receive_of judged
  receive_past_lem packet = rw (call_accepted m h)

-- the sequencer's
sequencer_past_lem : (s : Sequencer) (packet : List ℕ) → sequencer_sound.sound_of s ≡ true → sequencer.receive_of s packet longest_packet ≡ sequencer.read_step s (read_of packet) (payload_at packet)
unfolding sequencer.receive_of sequencer.call_verdict judged when◌then◌else◌
sequencer_past_lem s packet h = rw h

module _ (group : description.Group) where
  module _ (w : World) (v : WorldInv group w) where
    abbrev g : Group
    g = w.group

    sound : (i : ℕ) → (i <? length g.members) ≡ true → member_sound.sound_of (get_or g.members i no_member) ≡ true
    sound i t = let z = ltb-true i (length g.members) t in let y = v.members in (v.terminal i (omega arith)).content.sound

    at_past : (i : ℕ) (call call' : Member → member.Outcome) → ((m : Member) → member_sound.sound_of m ≡ true → call m ≡ call' m) → at_member g i call ≡ at_member g i call'
    at_past i call call' h =
        let m : Member = get_or g.members i no_member in
        when_first (i <? length g.members) (λ (o : member.Outcome). with_member g i o (written o.bytes)) (call m) (call' m) (missing g) (λ t. h m (sound i t))

    hand_past : (i : ℕ) (packet : Option (List ℕ)) → hand_to_member g i packet ≡ member_past g i packet
    hand_past i none = refl
    hand_past i (some packet) = at_past i (λ m. member.receive_of m packet longest_packet) (receive_past packet) (λ m s. receive_past_lem m s packet)

    handed_past : (packet : Option (List ℕ)) → hand_to_sequencer g packet ≡ sequencer_past g packet
    handed_past none = refl
    handed_past (some packet) = ap (with_sequencer g) (sequencer_past_lem g.sequencer packet v.sequencer.sound)

    happen_past : (e : Event) → happen g e ≡ past g e
    unfolding happen past
    happen_past (submit i payload) = at_past i (λ m. member.submit_of m payload longest_packet) (λ m. submit_past m payload) (λ m s. submit_past_lem m s payload)
    happen_past (repeat i) = refl
    happen_past (world.take i) =
        let m : Member = get_or g.members i no_member in
        when_first (i <? length g.members) (λ (o : member.Outcome). with_member g i o []) (member.take_of m longest_packet) (take_past m) (missing g) (λ t. take_past_lem m (sound i t))
    happen_past (status i) = at_past i (λ m. member.status_of m longest_packet) status_past status_past_lem
    happen_past poll = refl
    happen_past (copy number) = refl
    happen_past (hand_member k i) = hand_past i (get_elem? g.packets k)
    happen_past (hand_sequencer k) = handed_past (get_elem? g.packets k)

  -- what a list leaves
  pub run_leaves : group.n ≤ members_most → group.number ≤ largest_number → (w : World) (es : List Event) → WorldInv group w → (run w es).group ≡ leaves w.group es
  unfolding run leaves
  run_leaves hn hg w [] v = refl
  run_leaves hn hg w (e ∷ es) v =
      run_leaves hn hg (step w e) es (next_keeps group hn hg w e v)
      ∙ ap (λ (d : Happened). leaves d.group es) (happen_past w v e)
