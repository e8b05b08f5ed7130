-- A terminal read off its parts: what the code asks of the arrays is what question 1 asks of the terminal. Assumes nothing.
use mathlib.Core.Path.{◌≡◌, refl, sym, ap, ◌∙◌}
use mathlib.Core.Bool.{Bool, true, false}
use mathlib.Core.List.{List}
use Prim.Native.Nat.{ℕ, ◌≤◌, ◌<◌}
use native.Mathlib.Omega.{arith}
use borrow.Author.Tests.{le-ltb, lt-leb}
use lib.ListN.{length, get_or}
use Rattle.group.specs.Choice.{when◌then◌else◌, ◌and◌, ◌<?◌, ◌≤?◌, ◌=?◌}
use Rattle.group.specs.Fold.{all, all_above}
use Rattle.group.specs.Limits.{places_most}
use Rattle.group.specs.Members.{is_in}
use Rattle.group.specs.declared.Group.{Group}
use Rattle.group.proofs.Choice.{when_false, then_fails}
use Rattle.group.proofs.Fold.{all_at, at_all, above_each, above_all}
use Rattle.group.proofs.Lists.{eq_or}
use Rattle.group.proofs.Members.{in_zero}
use Rattle.message.specs.Message.{Message, blank, is_empty}
use Rattle.history.specs.Marks.{mark_sound}
use Rattle.history.specs.Sound.{entry_sound, kept_sound, place_sound}
use Rattle.history.specs.State.{Acknowledgement, place_of, message_at}
use Rattle.history.specs.View.{counts_only, table_in}
use Rattle.history.proofs.View.{count_own}
use Rattle.store.specs.Places.{messages_in}
use Rattle.store.proofs.Places.{length_messages}
use Rattle.sequencer.specs.View.{whole, view_of}
use Rattle.sequencer.specs.declared.Head.{Head}
use Rattle.recovery.specs.Sound.{past_sound, past_place_sound, zero_sequencer}
use Rattle.recovery.specs.Steps.{group_zero}
use Rattle.recovery.specs.State.{Kept}

-- a place of the last taken is asked as one of the history is
kept_past : (n : ℕ) (counts : List ℕ) (m : Message) → kept_sound n (counts_only counts) m ≡ past_sound n counts m
unfolding kept_sound past_sound
kept_past n counts m = rw (count_own counts m.originator.0)

pub places_past : (n taken : ℕ) (kept : Kept) → place_sound n (counts_only kept.counts) kept.past taken ≡ past_place_sound n taken kept
unfolding place_sound past_place_sound
places_past n taken kept = λ i number. when number ≤? taken then kept_past n kept.counts (message_at kept.past number) i else is_empty (message_at kept.past number)

-- a test that holds exactly if another does
both_ways : (a b : Bool) → (a ≡ true → b ≡ true) → (b ≡ true → a ≡ true) → a ≡ b
both_ways true b f g = sym (f refl)
both_ways false true f g = g refl
both_ways false false f g = refl

-- the 32 numbers above 0 have each place once
module _ {A : Type 0} (P : A → Bool) (d : A) (l : List A) (size : length l ≡ places_most) (test : ℕ → Bool)
    (is : (s : ℕ) → 1 ≤ s → test s ≡ P (get_or l (place_of s) d)) where
  each_place : all_above test 0 places_most ≡ true → (j : ℕ) → j < length l → P (get_or l j d) ≡ true
  each_place e j h =
      eq_or j 0
      (λ z. let q : place_of places_most ≡ j = omega arith in rw (← q) (sym (is places_most (omega arith)) ∙ above_each test 0 places_most e places_most (omega arith) (omega arith)))
      (λ n. let q : place_of j ≡ j = omega arith in rw (← q) (sym (is j (omega arith)) ∙ above_each test 0 places_most e j (omega arith) (omega arith)))

  pub places_each : all_above test 0 places_most ≡ all (λ i x. P x) 0 l
  places_each =
      both_ways (all_above test 0 places_most) (all (λ i x. P x) 0 l) (λ e. at_all (λ i x. P x) d l (each_place e))
      (λ e. above_all test 0 places_most (λ s a b. is s a ∙ all_at (λ i x. P x) d l e (place_of s) (omega arith)))

-- nothing is marked, kept or known where there is no sequencer
abbrev pub nobody : Group
nobody = record { n = 0; resilience = 0; survivors = 0; elected = record { 0 = 0 }; number = 0 }

swap : (a b c : Bool) → a and b and c ≡ a and c and b
unfolding when◌then◌else◌
swap true true true = refl
swap true true false = refl
swap true false true = refl
swap true false false = refl
swap false b c = refl

no_entry : (i : ℕ) (a : Acknowledgement) → entry_sound nobody 0 i a ≡ (a.taken.0 =? 0 and a.count =? 0 and a.repeats =? 0)
unfolding entry_sound
no_entry i a =
    sym (when_false (is_in 0 i) _ _ _ (nobody_in (is_in 0 i) (in_zero i)) refl)
    ∙ ap (λ (x : Bool). a.taken.0 =? 0 and a.repeats =? 0 and x) (sym (when_false (i <? 0) _ true _ (le-ltb i 0 (omega arith)) refl))
    ∙ swap (a.taken.0 =? 0) (a.repeats =? 0) (a.count =? 0)
  where
    nobody_in : (b : Bool) → (b ≡ true → ⊥) → b ≡ false
    nobody_in true n = absurd (n refl)
    nobody_in false n = refl

pub no_entries : (table : List Acknowledgement) → all (entry_sound nobody 0) 0 table ≡ all (λ i a. a.taken.0 =? 0 and a.count =? 0 and a.repeats =? 0) 0 table
no_entries table = ap (λ (test : ℕ → Acknowledgement → Bool). all test 0 table) (λ k i a. no_entry i a k)

empty_place : (table : List Acknowledgement) (history : List Message) (s : ℕ) → (s ≤? 0) ≡ false → place_sound 0 table history 0 s ≡ is_empty (message_at history s)
unfolding place_sound
empty_place table history s e = sym (when_false (s ≤? 0) _ _ _ e refl)

no_mark : (marks : List ℕ) (s : ℕ) → (s ≤? 0) ≡ false → mark_sound 0 marks 0 0 s ≡ (get_or marks (place_of s) 0 =? 0)
unfolding mark_sound
no_mark marks s e = sym (when_false (0 <? s and s ≤? 0) _ _ _ (then_fails (0 <? s) (s ≤? 0) e) refl)

pub no_history : (table : List Acknowledgement) (history : List Message) → length history ≡ places_most
    → all_above (place_sound 0 table history 0) 0 places_most ≡ all (λ i m. is_empty m) 0 history
no_history table history size =
    places_each is_empty blank history size (place_sound 0 table history 0) (λ s h. empty_place table history s (lt-leb s 0 h))

pub no_marks : (marks : List ℕ) → length marks ≡ places_most → all_above (mark_sound 0 marks 0 0) 0 places_most ≡ all (λ i mark. mark =? 0) 0 marks
no_marks marks size = places_each (λ mark. mark =? 0) 0 marks size (mark_sound 0 marks 0 0) (λ s h. no_mark marks s (lt-leb s 0 h))

-- a sequencer that is not there, test by test as the code asks it
five : (a b c d e r : Bool) → (a and b and c and d and e) and r ≡ a and b and c and d and e and r
unfolding when◌then◌else◌
five true true true true true r = refl
five true true true true false r = refl
five true true true false e r = refl
five true true false d e r = refl
five true false c d e r = refl
five false b c d e r = refl

-- what the code asks of one
abbrev pub asks_zero : Head → List ℕ → List ℕ → List ℕ → List ℕ → List ℕ → List ℕ → List ℕ → List ℕ → Bool
asks_zero head taken counts repeats kept marks originators lengths payloads =
    group_zero head.group
    and head.top.0 =? 0
    and head.accepted.0 =? 0
    and head.floor.0 =? 0
    and all (entry_sound nobody 0) 0 (table_in taken counts repeats)
    and all_above (place_sound 0 (counts_only counts) (messages_in kept originators lengths payloads) 0) 0 places_most
    and all_above (mark_sound 0 marks 0 0) 0 places_most

module _ (head : Head) (taken counts repeats kept marks originators lengths payloads : List ℕ) (sizes : length kept ≡ places_most) (marked : length marks ≡ places_most) where
  pub zero_as : asks_zero head taken counts repeats kept marks originators lengths payloads ≡ zero_sequencer (view_of (whole head taken counts repeats kept marks originators lengths payloads))
  unfolding zero_sequencer view_of group_zero
  zero_as =
      five (head.group.n =? 0) (head.group.resilience =? 0) (head.group.survivors =? 0) (head.group.elected.0 =? 0) (head.group.number =? 0) _
      ∙ (λ i. head.group.n =? 0
      and head.group.resilience =? 0
      and head.group.survivors =? 0
      and head.group.elected.0 =? 0
      and head.group.number =? 0
      and head.top.0 =? 0
      and head.accepted.0 =? 0
      and head.floor.0 =? 0
      and no_entries (table_in taken counts repeats) i
      and no_history (counts_only counts) (messages_in kept originators lengths payloads) (length_messages kept originators lengths payloads ∙ sizes) i
      and no_marks marks marked i)
