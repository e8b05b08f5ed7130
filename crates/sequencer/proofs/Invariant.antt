-- The part of demand 3's invariant that speaks of the sequencer, and what a call of it owes the group. Assumes nothing.
use mathlib.Core.Path.{◌≡◌}
use mathlib.Core.Bool.{Bool, true}
use mathlib.Core.Option.{some}
use mathlib.Core.List.{List, ◌++◌}
use Prim.Native.Nat.{ℕ, ◌≤◌, ◌<◌}
use lib.ListN.{length}
use Rattle.group.proofs.Counting.{count}
use Rattle.group.proofs.Lists.{at, All}
use Rattle.group.specs.Choice.{◌and◌, ◌≤?◌}
use Rattle.group.specs.Limits.{payload_most}
use Rattle.group.specs.Members.{is_in, others_of, needed_of}
use Rattle.group.specs.declared.Group.{Group}
use Rattle.message.proofs.Owning.{Owns}
use Rattle.message.specs.Message.{message_of}
use Rattle.message.specs.Order.{Ordered, own_of}
use Rattle.packet.proofs.Facts.{Voice, Facts, Known}
use Rattle.history.specs.Marks.{mark_at}
use Rattle.history.specs.State.{message_at}
use Rattle.history.proofs.Soundness.{taken_in, count_in}
use Rattle.sequencer.specs.Calls.{Outcome}
use Rattle.sequencer.specs.Laws.{Typed}
use Rattle.sequencer.specs.Order.{numbered_by}
use Rattle.sequencer.specs.Sound.{sound_of}
use Rattle.sequencer.specs.State.{Sequencer}

-- the group's sequencer, where `order` is the order so far
pub record SequencerInv (group : Group) (s : Sequencer) (order : List Ordered) : Type 0 where
  pub group_is : s.group ≡ group
  pub typed : Typed s
  pub sound : sound_of s ≡ true
  pub top_is : s.top.0 ≡ length order
  -- the history is the order without its first floor
  pub history_is : (k : ℕ) (m : Ordered) → at order k ≡ some m → s.floor.0 < k
      → message_at s.history k ≡ message_of (record { 0 = m.originator }) m.count m.payload
  pub number_is : (k : ℕ) (m : Ordered) → at order k ≡ some m → m.number ≡ k
  pub originator_ok : (k : ℕ) (m : Ordered) → at order k ≡ some m → m.originator < group.n
  pub count_least : (k : ℕ) (m : Ordered) → at order k ≡ some m → 1 ≤ m.count
  pub count_most : (k : ℕ) (m : Ordered) → at order k ≡ some m → m.count ≤ count_in s.acknowledgements m.originator
  pub payload_ok : (k : ℕ) (m : Ordered) → at order k ≡ some m → length m.payload ≤ payload_most
  -- a member's last count is the number of its messages in the order
  pub counts_are : (i : ℕ) → i < group.n → count_in s.acknowledgements i ≡ length (own_of i order)
  -- where none has to confirm, all is accepted
  pub plain : needed_of group ≡ 0 → s.accepted.0 ≡ s.top.0

-- a member other than the elected whose reach is at least a number
abbrev pub reaches : Group → (ℕ → ℕ) → ℕ → ℕ → Bool
reaches group reach number i = is_in (others_of group) i and number ≤? reach i

-- who has what was confirmed: a mark stands where its member's reach goes, and as many as have to confirm have all that is accepted
pub record Confirmed (group : Group) (s : Sequencer) (reach : ℕ → ℕ) : Type 0 where
  pub marked : (k i : ℕ) → s.accepted.0 < k → k ≤ s.top.0 → is_in (mark_at s.marks k) i ≡ true → k ≤ reach i
  pub enough : needed_of group ≤ count group.n (reaches group reach s.accepted.0)

-- what packets can speak of under an order and a last accepted number
abbrev pub facts_of : Group → List Ordered → ℕ → (ℕ → Voice) → Facts
facts_of group order accepted voice = record { needed = needed_of group; order = order; accepted = accepted; voice = voice }

-- what a call of the sequencer owes, where `accepted` was its last accepted number, `voice` what the terminals can say of themselves,
-- and `packets` what was written
pub record SequencerGood (group : Group) (order : List Ordered) (accepted : ℕ) (voice : ℕ → Voice) (packets : List (List ℕ)) (o : Outcome) : Type 0 where
  pub inv : SequencerInv group o.sequencer (order ++ numbered_by o.answer o.bytes)
  pub acknowledged : (i : ℕ) → i < group.n → taken_in o.sequencer.acknowledgements i ≤ (voice i).row
  pub own : (i : ℕ) → i < group.n → Owns i (order ++ numbered_by o.answer o.bytes) (voice i).submitted
  pub confirmed : Confirmed group o.sequencer (λ i. (voice i).reach)
  pub up : accepted ≤ o.sequencer.accepted.0
  pub known : All (Known group.number (facts_of group (order ++ numbered_by o.answer o.bytes) o.sequencer.accepted.0 voice)) packets
