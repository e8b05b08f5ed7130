-- A table in which one member's entry has another count and repeat count: acknowledgements stay, and so do the counts of the
-- others: each entry is the member's or as it was. Assumes nothing.
use mathlib.Core.Path.{◌≡◌, refl, ap}
use mathlib.Core.Logic.{◌≢◌}
use mathlib.Core.List.{List}
use Prim.Native.Nat.{ℕ, ◌≤◌, ◌<◌}
use native.Mathlib.Nat.{le_refl}
use lib.ListN.{length, get_or, set}
use lib.Seq.{get_or-set_same}
use Rattle.group.proofs.Lists.{set_each}
use Rattle.group.specs.declared.MemberNumber.{MemberNumber}
use Rattle.history.specs.Note.{with_counts}
use Rattle.history.specs.State.{Acknowledgement, no_acknowledgement, acknowledgement_of}
use Rattle.history.proofs.Soundness.{taken_in, count_in}

module _ (table : List Acknowledgement) (m : MemberNumber) (count repeats : ℕ) (inside : m.0 < length table) where
  -- the member's entry, with the counts
  abbrev entry : Acknowledgement
  entry = with_counts (acknowledgement_of table m) count repeats

  abbrev table' : List Acknowledgement
  table' = set table m.0 entry

  pub counted_each : (P : ℕ → Acknowledgement → Type 0) (i : ℕ) → (i ≡ m.0 → P i entry)
      → (i ≢ m.0 → P i (get_or table i no_acknowledgement)) → P i (get_or table' i no_acknowledgement)
  counted_each P i same other = set_each P table m.0 entry no_acknowledgement i same other inside

  pub counted_taken : (i : ℕ) → taken_in table' i ≡ taken_in table i
  counted_taken i = counted_each (λ j a. a.taken.0 ≡ taken_in table j) i (λ q. rw q) (λ q. refl)

  pub counted_same : count_in table' m.0 ≡ count
  counted_same = ap (λ (a : Acknowledgement). a.count) (get_or-set_same table m.0 entry no_acknowledgement inside)

  pub counted_up : count_in table m.0 ≤ count → (i : ℕ) → count_in table i ≤ count_in table' i
  counted_up h i = counted_each (λ j a. count_in table j ≤ a.count) i (λ q. rw q h) (λ q. le_refl (count_in table i))
