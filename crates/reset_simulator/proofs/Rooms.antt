-- What the tests of room and of an index say. Assumes nothing.
use mathlib.Core.Path.{◌≡◌, refl, sym, ◌∙◌}
use mathlib.Core.Bool.{Bool, true, false}
use Prim.Native.Nat.{ℕ, ◌≤◌, ◌<◌}
use native.Mathlib.Omega.{arith}
use borrow.Author.Tests.{lt-ltb, le-leb, ltb-true, ltb-false, leb-true}
use Rattle.group.proofs.Choice.{both_hold, both_first, both_then}
use Rattle.group.specs.Choice.{◌<?◌, ◌≤?◌}
use Rattle.group.specs.Limits.{members_most}
use Rattle.simulator.specs.Steps.{room_of, there_of}
use Rattle.simulator.specs.Whole.{packets_most}
use Rattle.reset_simulator.specs.Whole.{Room}
use Rattle.reset_simulator.specs.declared.World.{World}

true≢false : true ≡ false → ⊥
true≢false e = let z : ◌≡◌ {A = ℕ} 0 1 = cc in omega arith

module _ (world : World) where
  abbrev room : Bool
  room = room_of world.count world.n

  room_yes : room ≡ true → Room world
  unfolding room_of
  room_yes e =
      record {
        packets = ltb-true world.count packets_most (both_first (world.count <? packets_most) (world.n ≤? members_most) e);
        terminals = leb-true world.n members_most (both_then (world.count <? packets_most) (world.n ≤? members_most) e);
      }

  room_is : Room world → room ≡ true
  unfolding room_of
  room_is r =
      both_hold (world.count <? packets_most) (world.n ≤? members_most) (lt-ltb world.count packets_most r.packets) (le-leb world.n members_most r.terminals)

  module _ (k limit : ℕ) (b : Bool) (is : b ≡ there_of world.count world.n k limit) where
    pub there_yes : b ≡ true → Room world × (k < limit)
    unfolding there_of
    there_yes e = (room_yes (both_first room (k <? limit) (sym is ∙ e)), ltb-true k limit (both_then room (k <? limit) (sym is ∙ e)))

    pub there_no : b ≡ false → Room world → limit ≤ k
    unfolding there_of
    there_no e r = go (k <? limit) refl
      where
        go : (c : Bool) → (k <? limit) ≡ c → limit ≤ k
        go true t = absurd (true≢false (sym (both_hold room (k <? limit) (room_is r) t) ∙ sym is ∙ e))
        go false t = ltb-false k limit t
