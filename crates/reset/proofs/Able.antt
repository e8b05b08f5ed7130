-- A member can begin a group: what it took, what it keeps of it and what it holds in a row is the order up to its reach, and the sequencer that begins
-- with it satisfies the sequencer's part of the invariant. Assumes nothing.
use mathlib.Core.Path.{◌≡◌, refl, sym, ap, ◌∙◌, subst}
use mathlib.Core.Option.{some}
use mathlib.Core.List.{List}
use Prim.Native.Nat.{ℕ, zero, suc, ◌+◌, ◌-◌, ◌≤◌, ◌<◌}
use native.Mathlib.Omega.{arith}
use borrow.Author.Tests.{leb-true, leb-false}
use lib.ListN.{length, get_or, take, length-replicate}
use lib.Pow.{pow_pos}
use lib.Seq.{length-take-le}
use Rattle.group.proofs.Lists.{none≢some, when_elim, at, at_taken}
use Rattle.group.proofs.Members.{Standing}
use Rattle.group.specs.Choice.{◌≤?◌}
use Rattle.group.specs.Limits.{members_most, places_most, payload_most, largest_number}
use Rattle.group.specs.declared.Group.{Group}
use Rattle.history.proofs.Soundness.{count_in}
use Rattle.history.specs.State as history
use Rattle.message.proofs.Owning.{Owns, own_count}
use Rattle.message.specs.Message.{Message, message_of}
use Rattle.message.specs.Order.{Ordered, own_of}
use Rattle.member.proofs.Acknowledged.{reach_least, reach_near, reach_holds}
use Rattle.member.proofs.Invariant.{Content}
use Rattle.member.proofs.Soundness as member
use Rattle.member.specs.State.{reach_of}
use Rattle.sequencer.proofs.Invariant.{SequencerInv}
use Rattle.sequencer.proofs.Soundness as sequencer
use Rattle.sequencer.specs.State.{Sequencer}
use Rattle.window.specs.Places as window
use Rattle.window.specs.Places.{larger_of}
use Rattle.recovery.proofs.Beginning.{table_length, begun_sound, reach_fits, floor_reach, reach_floor, counts_size, counts_unused, message_facts, history_length, history_in, history_out}
use Rattle.recovery.proofs.Holding.{no_mark}
use Rattle.recovery.proofs.Kept.{PastFacts, KeptSound, row_length}
use Rattle.recovery.specs.Begin.{history_from, begun}
use Rattle.recovery.specs.State.{Terminal, kept_floor, message_of_number, counted_row, counts_of}
use Rattle.reset.proofs.Cutting.{owns_cut}
use Rattle.reset.proofs.Elected.{entry_at}
use Rattle.reset.proofs.Remembering.{Remembers, counted_next}

-- an order of a group of n, whose messages are their originators' first submissions
pub record Numbered (n : ℕ) (order : List Ordered) (submitted : ℕ → List (List ℕ)) : Type 0 where
  pub number_is : (k : ℕ) (m : Ordered) → at order k ≡ some m → m.number ≡ k
  pub originator_ok : (k : ℕ) (m : Ordered) → at order k ≡ some m → m.originator < n
  pub payload_ok : (k : ℕ) (m : Ordered) → at order k ≡ some m → length m.payload ≤ payload_most
  pub owns : (o : ℕ) → o < n → Owns o order (submitted o)

one_of : {x y : Ordered} → some x ≡ some y → x ≡ y
one_of e = cc

module _ (t : Terminal) (i : ℕ) (order took : List Ordered) (submitted : ℕ → List (List ℕ)) (h : Content i t.member order took (submitted i)) (order-ok : Numbered t.member.group.n order submitted)
    (mem : Remembers t.member.taken.0 t.kept order) (kept : KeptSound t.member.group.n t.member.taken.0 t.kept) (long : length t.kept.counts ≡ members_most)
    (reach_le : reach_of t.member ≤ length order) where
  abbrev n : ℕ
  n = t.member.group.n

  abbrev taken : ℕ
  taken = t.member.taken.0

  abbrev reach : ℕ
  reach = reach_of t.member

  sound : member.Sound t.member
  sound = member.sound_of_lem t.member h.sound

  -- the row is the order's
  row_is : (s : ℕ) → taken < s → s ≤ reach → (x : Ordered) × (at order s ≡ some x) × (window.message_at t.member.held s ≡ message_of (record { 0 = x.originator }) x.count x.payload)
  row_is s a b = let near = reach_near t.member in h.held_is s a (omega arith) (reach_holds t.member s a b)

  -- counts with the row's
  row_counts : (k : ℕ) → taken + k ≤ reach → (o : ℕ) → get_or (counted_row t.kept.counts t.member.held taken k) o 0 ≡ length (own_of o (take (taken + k) order))
  unfolding counted_row
  row_counts zero b o = let z : taken ≡ taken + 0 = omega arith in mem.counts_are o ∙ ap (λ (j : ℕ). length (own_of o (take j order))) z
  row_counts (suc k) b o =
      let x = row_is (taken + suc k) (omega arith) b in
      let m : Ordered = x.0 in
      let next : taken + suc k ≡ suc (taken + k) = omega arith in
      let there : at order (suc (taken + k)) ≡ some m = ap (at order) (sym next) ∙ x.1 in
      let less = order-ok.originator_ok (suc (taken + k)) m there in
      let most = sound.n_most in
      let size = row_length t.kept.counts t.member.held taken k in
      counted_next (counted_row t.kept.counts t.member.held taken k) order (taken + k) (window.message_at t.member.held (taken + suc k)) m (submitted m.originator) there x.2 (omega arith)
      (order-ok.owns m.originator less) (row_counts k (omega arith)) o
      ∙ ap (λ (j : ℕ). length (own_of o (take j order))) (sym next)

  pub counts_reach : (o : ℕ) → get_or (counts_of t) o 0 ≡ length (own_of o (take reach order))
  unfolding counts_of
  counts_reach o =
      let least = reach_least t.member in
      let z : taken + (reach - taken) ≡ reach = omega arith in
      row_counts (reach - taken) (omega arith) o ∙ ap (λ (j : ℕ). length (own_of o (take j order))) z

  -- each message above its floor
  message_is_lem : (s : ℕ) (m : Ordered) → at order s ≡ some m → kept_floor t < s → s ≤ reach → message_of_number t s ≡ message_of (record { 0 = m.originator }) m.count m.payload
  unfolding message_of_number
  message_is_lem s m e a b =
      let wide = reach_floor t sound kept long in
      let least = reach_least t.member in
      when_elim (λ (y : Message). y ≡ message_of (record { 0 = m.originator }) m.count m.payload) (s ≤? taken)
      (λ below. let x = mem.past_is s (omega arith) (leb-true s taken below) in subst (λ (y : Ordered). history.message_at t.kept.past s ≡ message_of (record { 0 = y.originator }) y.count y.payload) (one_of (sym x.1 ∙ e)) x.2)
      (λ above. let x = row_is s (leb-false s taken above) b in subst (λ (y : Ordered). window.message_at t.member.held s ≡ message_of (record { 0 = y.originator }) y.count y.payload) (one_of (sym x.1 ∙ e)) x.2)

  module _ (group : Group) (stands : Standing group) (same : group.n ≡ n) (fits : group.number ≤ largest_number) (counts_fit : (o : ℕ) → get_or (counts_of t) o 0 ≤ largest_number) where
    abbrev floor : ℕ
    floor = kept_floor t

    abbrev begins : Sequencer
    begins = begun group reach floor (counts_of t) (history_from t floor (reach - floor))

    low : floor ≤ reach
    low = floor_reach t sound kept long

    wide : reach ≤ floor + places_most
    wide = reach_floor t sound kept long

    count_is : (o : ℕ) → count_in begins.acknowledgements o ≡ length (own_of o (take reach order))
    count_is o = (entry_at group.survivors floor (counts_of t) o).0 ∙ counts_reach o

    begins_sound : sequencer.Sound begins
    begins_sound =
        let l = low in
        let w = wide in
        let most = reach_fits t.member h.typed.taken in
        begun_sound group stands reach floor (counts_of t) (history_from t floor (reach - floor)) (counts_size t sound kept long) (omega arith) l w
        (λ o z. counts_unused t sound kept long o (omega arith))
        (λ s a b. subst (PastFacts group.n (counts_of t)) (sym (history_in t floor (reach - floor) s (omega arith) a (omega arith))) (rw same (message_facts t sound kept long s a b)))
        (λ s a b. history_out t floor (reach - floor) s (omega arith) (omega arith) b)

    pub able : SequencerInv group begins (take reach order)
    able =
        let size = length-take-le reach order reach_le in
        let most = reach_fits t.member h.typed.taken in
        record {
          group_is = refl;
          typed =
              record {
                group = fits;
                top = most;
                accepted = most;
                table = table_length group.survivors floor 0 (counts_of t) ∙ counts_size t sound kept long;
                history = history_length t floor (reach - floor);
                counts = λ o. subst (λ (k : ℕ). k ≤ largest_number) (sym (entry_at group.survivors floor (counts_of t) o).0) (counts_fit o);
                repeats = λ o. let z = (entry_at group.survivors floor (counts_of t) o).1 in omega arith;
                marks = length-replicate {A = ℕ} places_most 0;
                masks = λ o. let z = no_mark o in let p = pow_pos members_most in omega arith;
              };
          sound = sequencer.of_sound begins begins_sound;
          top_is = sym size;
          history_is = λ k m e a.
              let x = at_taken reach order k e in
              let l = low in
              let w = wide in
              let b = x.0 in
              history_in t floor (reach - floor) k (omega arith) a (omega arith) ∙ message_is_lem k m x.1 a b;
          number_is = λ k m e. order-ok.number_is k m (at_taken reach order k e).1;
          originator_ok = λ k m e. let z = order-ok.originator_ok k m (at_taken reach order k e).1 in omega arith;
          count_least = λ k m e. count_low k m e;
          count_most = λ k m e. count_high k m e;
          payload_ok = λ k m e. order-ok.payload_ok k m (at_taken reach order k e).1;
          counts_are = λ o z. count_is o;
          plain = λ e. refl;
        }
      where
        counts_of_lem : (k : ℕ) (m : Ordered) → at (take reach order) k ≡ some m → (1 ≤ m.count) × (m.count ≤ length (own_of m.originator (take reach order)))
        counts_of_lem zero m e = absurd (none≢some e)
        counts_of_lem (suc k) m e =
            let less = order-ok.originator_ok (suc k) m (at_taken reach order (suc k) e).1 in
            let c = own_count (take reach order) (submitted m.originator) k m e (owns_cut m.originator reach order (submitted m.originator) (order-ok.owns m.originator less)) in
            let x = c.0 in
            let y = c.1 in
            (omega arith, omega arith)

        count_low : (k : ℕ) (m : Ordered) → at (take reach order) k ≡ some m → 1 ≤ m.count
        count_low k m e = (counts_of_lem k m e).0

        count_high : (k : ℕ) (m : Ordered) → at (take reach order) k ≡ some m → m.count ≤ count_in begins.acknowledgements m.originator
        count_high k m e = subst (λ (x : ℕ). m.count ≤ x) (sym (count_is m.originator)) (counts_of_lem k m e).1
