-- What the tests of room and of an index say. Assumes nothing.
use mathlib.Core.Path.{◌≡◌, refl, sym, ◌∙◌}
use mathlib.Core.Bool.{Bool, true, false}
use Prim.Native.Nat.{ℕ, ◌≤◌, ◌<◌}
use native.Mathlib.Omega.{arith}
use borrow.Author.Tests.{lt-ltb, le-leb, ltb-true, ltb-false, leb-true}
use Rattle.group.proofs.Choice.{both_hold, both_first, both_then}
use Rattle.group.specs.Choice.{◌<?◌, ◌≤?◌}
use Rattle.group.specs.Limits.{members_most}
use Rattle.simulator.specs.Steps.{room_of, there_of}
use Rattle.simulator.specs.Whole.{packets_most, Room}
use Rattle.simulator.specs.declared.Head.{Head}

true≢false : true ≡ false → ⊥
true≢false e = let z : ◌≡◌ {A = ℕ} 0 1 = cc in omega arith

module _ (head : Head) where
  abbrev n : ℕ
  n = head.sequencer.group.n

  pub room_yes : (b : Bool) → b ≡ room_of head.count n → b ≡ true → Room head
  unfolding room_of
  room_yes b is e =
      record {
        packets = ltb-true head.count packets_most (both_first (head.count <? packets_most) (n ≤? members_most) (sym is ∙ e));
        members = leb-true n members_most (both_then (head.count <? packets_most) (n ≤? members_most) (sym is ∙ e));
      }

  room_is : Room head → room_of head.count n ≡ true
  unfolding room_of
  room_is r = both_hold (head.count <? packets_most) (n ≤? members_most) (lt-ltb head.count packets_most r.packets) (le-leb n members_most r.members)

  pub room_no : (b : Bool) → b ≡ room_of head.count n → b ≡ false → Room head → ⊥
  room_no b is e r = true≢false (sym (room_is r) ∙ sym is ∙ e)

  module _ (k limit : ℕ) (b : Bool) (is : b ≡ there_of head.count n k limit) where
    pub there_yes : b ≡ true → Room head × (k < limit)
    unfolding there_of
    there_yes e = (
      room_yes (room_of head.count n) refl (both_first (room_of head.count n) (k <? limit) (sym is ∙ e)),
      ltb-true k limit (both_then (room_of head.count n) (k <? limit) (sym is ∙ e)),
    )

    pub there_no : b ≡ false → Room head → limit ≤ k
    unfolding there_of
    there_no e r = go (k <? limit) refl
      where
        go : (c : Bool) → (k <? limit) ≡ c → limit ≤ k
        go true t = absurd (true≢false (sym (both_hold (room_of head.count n) (k <? limit) (room_is r) t) ∙ sym is ∙ e))
        go false t = ltb-false k limit t
