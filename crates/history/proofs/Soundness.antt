-- What soundness says of an entry and of a kept message, fact by fact, and what floor is to the entries. Assumes nothing.
use mathlib.Core.Path.{◌≡◌, refl, ap}
use mathlib.Core.Bool.{Bool, true, false}
use mathlib.Core.List.{List}
use Prim.Native.Nat.{ℕ, ◌≤◌, ◌<◌}
use native.Mathlib.Nat.{le_antisymm, le_trans}
use native.Mathlib.Omega.{arith}
use borrow.Author.Tests.{ltb-false, leb-true, le-ltb, le-leb, eq-eqb}
use lib.ListN.{length, get_or}
use Rattle.group.proofs.Choice.{both_hold, says, tests}
use Rattle.group.proofs.Fold.{least_of-first, least_of-most, least_of-least}
use Rattle.group.proofs.Lists.{when_elim}
use Rattle.group.specs.Choice.{when◌then◌else◌, ◌and◌, ◌<?◌, ◌=?◌}
use Rattle.group.specs.Limits.{payload_most, largest_number}
use Rattle.group.specs.Members.{is_in}
use Rattle.group.specs.declared.Group.{Group}
use Rattle.message.specs.Message.{Message, zero_behind}
use Rattle.history.specs.Sound.{entry_sound, kept_sound}
use Rattle.history.specs.State.{Acknowledgement, no_acknowledgement, floor_of}

-- member i's entry in a table: the last number known taken, the last count numbered, the repeats
abbrev pub taken_in : List Acknowledgement → ℕ → ℕ
taken_in table i = (get_or table i no_acknowledgement).taken.0

abbrev pub count_in : List Acknowledgement → ℕ → ℕ
count_in table i = (get_or table i no_acknowledgement).count

abbrev pub repeats_in : List Acknowledgement → ℕ → ℕ
repeats_in table i = (get_or table i no_acknowledgement).repeats

-- a kept message is one of the group's: of a member, with a count that was numbered
pub record KeptFacts (n : ℕ) (table : List Acknowledgement) (m : Message) : Type 0 where
  pub originator : m.originator.0 < n
  pub count_least : 1 ≤ m.count
  pub count_most : m.count ≤ count_in table m.originator.0
  pub short : m.length ≤ payload_most
  pub zeros : zero_behind m ≡ true

pub kept_facts : (n : ℕ) (table : List Acknowledgement) (m : Message) → kept_sound n table m ≡ true → KeptFacts n table m
unfolding kept_sound
kept_facts n table m e =
    record {
      originator = search says depth 9;
      count_least = search says depth 9;
      count_most = search says depth 9;
      short = search says depth 9;
      zeros = search says depth 9;
    }

pub facts_kept : (n : ℕ) (table : List Acknowledgement) (m : Message) → KeptFacts n table m → kept_sound n table m ≡ true
unfolding kept_sound
facts_kept n table m k = search tests depth 9

-- and stays one under a table with no lower count of its originator
pub kept_under : (n : ℕ) (table table' : List Acknowledgement) (m : Message) → count_in table m.originator.0 ≤ count_in table' m.originator.0
    → KeptFacts n table m → KeptFacts n table' m
kept_under n table table' m up k =
    record {
      originator = k.originator;
      count_least = k.count_least;
      count_most = le_trans k.count_most up;
      short = k.short;
      zeros = k.zeros;
    }

-- floor is at most each of the survivors' acknowledgements, and at least what all of them are
module _ (survivors : ℕ) (table : List Acknowledgement) where
  pub floor_most : (i : ℕ) → is_in survivors i ≡ true → i < length table → floor_of survivors table ≤ taken_in table i
  unfolding floor_of
  floor_most i h k = least_of-most (is_in survivors) (λ a. a.taken.0) no_acknowledgement largest_number table i k h

  pub floor_least : (b : ℕ) → b ≤ largest_number → ((i : ℕ) → is_in survivors i ≡ true → i < length table → b ≤ taken_in table i) → b ≤ floor_of survivors table
  unfolding floor_of
  floor_least b h e = least_of-least (is_in survivors) (λ a. a.taken.0) no_acknowledgement b largest_number table h (λ i k t. e i t k)

  pub floor_first : floor_of survivors table ≤ largest_number
  unfolding floor_of
  floor_first = least_of-first (is_in survivors) (λ a. a.taken.0) no_acknowledgement 0 largest_number table

-- tables that differ in counts only have the same floor
pub floor_same : (survivors : ℕ) (table table' : List Acknowledgement) → length table ≡ length table' → ((i : ℕ) → taken_in table i ≡ taken_in table' i)
    → floor_of survivors table ≡ floor_of survivors table'
floor_same s table table' l e =
    le_antisymm
    (floor_least s table' (floor_of s table) (floor_first s table) (λ i h k. let z = floor_most s table i h (omega arith) in let y = e i in omega arith))
    (floor_least s table (floor_of s table') (floor_first s table') (λ i h k. let z = floor_most s table' i h (omega arith) in let y = e i in omega arith))

-- what is asked of a member that is no survivor: it acknowledges nothing, and repeated nothing
pub record Lost (a : Acknowledgement) : Type 0 where
  pub taken : a.taken.0 ≡ 0
  pub repeats : a.repeats ≡ 0

module _ (group : Group) (top : ℕ) (i : ℕ) (a : Acknowledgement) where
  pub entry_used : entry_sound group top i a ≡ true → a.taken.0 ≤ top
  unfolding entry_sound
  entry_used =
      when_elim (λ (b : Bool). b ≡ true → a.taken.0 ≤ top) (is_in group.survivors i) (λ t e. leb-true a.taken.0 top e)
      (λ t e. let z : a.taken.0 ≡ 0 = search says in omega arith)

  pub entry_lost : is_in group.survivors i ≡ false → entry_sound group top i a ≡ true → Lost a
  unfolding entry_sound when◌then◌else◌
  entry_lost h e =
      let z : a.taken.0 =? 0 and a.repeats =? 0 and (when i <? group.n then true else a.count =? 0) ≡ true = rw h at e in
      record { taken = search says; repeats = search says }

  pub entry_unused : is_in group.survivors i ≡ false → group.n ≤ i → entry_sound group top i a ≡ true → a ≡ no_acknowledgement
  unfolding entry_sound when◌then◌else◌
  entry_unused out h e =
      let l = entry_lost out e in
      let z : a.taken.0 =? 0 and a.repeats =? 0 and a.count =? 0 ≡ true = rw (out, le-ltb i group.n h) at e in
      let c : a.count ≡ 0 = search says in
      λ j. record { taken = record { 0 = l.taken j }; count = c j; repeats = l.repeats j }

  pub entry_sound_lem : a.taken.0 ≤ top → (is_in group.survivors i ≡ false → Lost a) → (group.n ≤ i → a ≡ no_acknowledgement) → entry_sound group top i a ≡ true
  unfolding entry_sound
  entry_sound_lem f l g =
      when_elim (λ (b : Bool). b ≡ true) (is_in group.survivors i) (λ t. le-leb a.taken.0 top f)
      (λ t.
      let lost = l t in
      both_hold _ _ (eq-eqb a.taken.0 0 lost.taken) (both_hold _ _ (eq-eqb a.repeats 0 lost.repeats)
      (when_elim (λ (b : Bool). b ≡ true) (i <? group.n) (λ u. refl)
      (λ u. eq-eqb a.count 0 (ap (λ (x : Acknowledgement). x.count) (g (ltb-false i group.n u)))))))
