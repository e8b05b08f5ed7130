-- The sequencer that begins from the elected terminal's own keeps the order whole: the part of the invariant that speaks of the sequencer, in the
-- made group. Assumes nothing.
use mathlib.Core.Path.{◌≡◌, refl, sym, ap, ◌∙◌, subst}
use mathlib.Core.List.{List}
use Prim.Native.Nat.{ℕ, ◌≤◌}
use native.Mathlib.Omega.{arith}
use lib.ListN.{length, get_or, length-replicate, get_or-eq_default}
use lib.Pow.{pow_pos}
use Rattle.group.proofs.Lists.{le_or}
use Rattle.group.proofs.Members.{Standing}
use Rattle.group.specs.Limits.{members_most, places_most, largest_number}
use Rattle.group.specs.declared.Group.{Group}
use Rattle.history.proofs.Soundness.{count_in}
use Rattle.history.specs.State.{Acknowledgement, no_acknowledgement, message_at}
use Rattle.message.specs.Order.{Ordered}
use Rattle.sequencer.proofs.Invariant.{SequencerInv}
use Rattle.sequencer.proofs.Soundness as sequencer
use Rattle.sequencer.specs.State.{Sequencer}
use Rattle.recovery.proofs.Beginning.{table_length, table_entry, counts_at, counts_length, begun_sound}
use Rattle.recovery.proofs.Holding.{no_mark}
use Rattle.recovery.specs.Begin.{table_from, counts_in, begun}

-- an entry of the table that it begins with
pub entry_at : (survivors floor : ℕ) (counts : List ℕ) (i : ℕ)
    → ((get_or (table_from survivors floor 0 counts) i no_acknowledgement).count ≡ get_or counts i 0) × ((get_or (table_from survivors floor 0 counts) i no_acknowledgement).repeats ≡ 0)
entry_at survivors floor counts i =
    le_or (length counts) i
    (λ l.
    let e = get_or-eq_default (table_from survivors floor 0 counts) no_acknowledgement {n = i} (let z = table_length survivors floor 0 counts in omega arith) in
    (ap (λ (a : Acknowledgement). a.count) e ∙ sym (get_or-eq_default counts 0 {n = i} l), ap (λ (a : Acknowledgement). a.repeats) e))
    (λ l.
    let e = table_entry survivors floor counts i l in
    (ap (λ (a : Acknowledgement). a.count) e, ap (λ (a : Acknowledgement). a.repeats) e))

module _ (old : Group) (s : Sequencer) (order : List Ordered) (v : SequencerInv old s order) (group : Group) (stands : Standing group) (same : group.n ≡ old.n) (fits : group.number ≤ largest_number) where
  abbrev counts : List ℕ
  counts = counts_in s.acknowledgements

  abbrev begins : Sequencer
  begins = begun group s.top.0 s.floor.0 counts s.history

  count_is : (i : ℕ) → count_in begins.acknowledgements i ≡ count_in s.acknowledgements i
  count_is i = (entry_at group.survivors s.floor.0 counts i).0 ∙ counts_at s.acknowledgements i

  sound : sequencer.Sound s
  sound = sequencer.sound_of_lem s v.sound

  size : s.group.n ≡ group.n
  size = ap (λ (g : Group). g.n) v.group_is ∙ sym same

  begins_sound : sequencer.Sound begins
  begins_sound =
      let low = sound.floor_le in
      let high = sound.accepted_le in
      let wide = sound.window in
      let most = v.typed.top in
      let n = size in
      begun_sound group stands s.top.0 s.floor.0 counts s.history (counts_length s.acknowledgements ∙ v.typed.table) (omega arith) (omega arith) wide
      (λ i h. counts_at s.acknowledgements i ∙ ap (λ (a : Acknowledgement). a.count) (sound.unused i (omega arith)))
      (λ k a b.
      let x = sound.kept k a b in
      record {
        originator = rw (← n) x.originator;
        count_least = x.count_least;
        count_most = rw (counts_at s.acknowledgements (message_at s.history k).originator.0) x.count_most;
        short = x.short;
        zeros = x.zeros;
      })
      (λ k a b. sound.empty k a b)

  pub begun_inv : SequencerInv group begins order
  begun_inv =
      record {
        group_is = refl;
        typed =
            record {
              group = fits;
              top = v.typed.top;
              accepted = v.typed.top;
              table = table_length group.survivors s.floor.0 0 counts ∙ counts_length s.acknowledgements ∙ v.typed.table;
              history = v.typed.history;
              counts = λ i. subst (λ (k : ℕ). k ≤ largest_number) (sym (count_is i)) (v.typed.counts i);
              repeats = λ i. let z = (entry_at group.survivors s.floor.0 counts i).1 in omega arith;
              marks = length-replicate {A = ℕ} places_most 0;
              masks = λ i. let z = no_mark i in let p = pow_pos members_most in omega arith;
            };
        sound = sequencer.of_sound begins begins_sound;
        top_is = v.top_is;
        history_is = v.history_is;
        number_is = v.number_is;
        originator_ok = λ k m e. let z = v.originator_ok k m e in omega arith;
        count_least = v.count_least;
        count_most = λ k m e. subst (λ (x : ℕ). m.count ≤ x) (sym (count_is m.originator)) (v.count_most k m e);
        payload_ok = v.payload_ok;
        counts_are = λ i h. count_is i ∙ v.counts_are i (omega arith);
        plain = λ e. refl;
      }
