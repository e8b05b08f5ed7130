-- A making: the survivors' invariant of the group before gives that of the made one, whose order is the first part of the order. Assumes nothing.
use mathlib.Core.Path.{◌≡◌, refl, sym, ap, ◌∙◌, subst}
use mathlib.Core.Bool.{true}
use mathlib.Core.List.{List, []}
use Prim.Native.Nat.{ℕ, ◌+◌, ◌-◌, ◌%◌, ◌≤◌, ◌<◌}
use native.Mathlib.Nat.{le_refl, le_trans}
use native.Mathlib.Omega.{arith}
use borrow.Author.Tests.{le-leb}
use lib.ListN.{length, get_or, take}
use lib.Seq.{ext_get_or, length-take-le}
use Rattle.group.proofs.Lists.{when_elim, le_or}
use Rattle.group.proofs.Members.{Standing, survivor_lt, others_count}
use Rattle.group.specs.Choice.{when◌then◌else◌, ◌≤?◌}
use Rattle.group.specs.Limits.{held_most, largest_number}
use Rattle.group.specs.Members.{is_in}
use Rattle.group.specs.declared.Group.{Group}
use Rattle.history.proofs.Soundness.{taken_in}
use Rattle.message.proofs.Owning.{Owns}
use Rattle.message.specs.Message.{Message, blank}
use Rattle.message.specs.Order.{Ordered}
use Rattle.member.proofs.Acknowledged.{acknowledged_both}
use Rattle.member.specs.State.{Member, reach_of, acknowledged_of}
use Rattle.packet.proofs.Facts.{Voice}
use Rattle.sequencer.proofs.Invariant.{SequencerInv}
use Rattle.sequencer.proofs.Soundness as sequencerSoundness
use Rattle.sequencer.specs.State.{Sequencer}
use Rattle.window.proofs.Keeping.{empty_none}
use Rattle.window.proofs.Row.{row_is, row_reach, smaller_le, larger_le, le_larger}
use Rattle.window.specs.Places.{place_of, message_at, smaller_of, larger_of}
use Rattle.recovery.proofs.Result.{dropped_length}
use Rattle.recovery.specs.Begin.{dropped_of, member_in}
use Rattle.reset.proofs.Cutting.{dropped_same, dropped_gone, owns_cut, content_cut}
use Rattle.reset.proofs.Seen.{Seen, voices}

module _ (m : Member) (group : Group) (number : ℕ) (long : length m.held ≡ held_most) where
  abbrev t : ℕ
  t = m.taken.0

  -- what it reaches up to a number, it reaches in a group that begins there, and acknowledges
  pub reach_in_lem : (x : ℕ) → x ≤ reach_of m → x ≤ number → x ≤ reach_of (member_in m group number)
  unfolding reach_of
  reach_in_lem x reached below =
      let k : ℕ = smaller_of largest_number (t + held_most) - t in
      let old = row_is m.held t k in
      let most = old.most in
      row_reach (row_is (dropped_of m.held number t held_most) t k) x (omega arith)
      (λ s lo hi.
      le_or s (t + held_most)
      (λ near. subst (λ (y : Message). 1 ≤ y.count) (sym (dropped_same m.held number t long held_most s (le_refl held_most) lo near (omega arith))) (old.holds s lo (omega arith)))
      (λ far. absurd (let z = smaller_most largest_number (t + held_most) in omega arith)))
    where
      smaller_most : (a b : ℕ) → smaller_of a b ≤ b
      smaller_most a b = (smaller_le a b).1

  pub row_in : (x : ℕ) → x ≤ reach_of m → x ≤ number → x ≤ (acknowledged_of (member_in m group number)).0
  row_in x reached below = acknowledged_both (member_in m group number) x (reach_in_lem x reached below) (le_trans below (larger_le t number).1)

  -- it holds nothing above
  held_in : (k : ℕ) → t < k → k ≤ t + held_most → 1 ≤ (message_at (dropped_of m.held number t held_most) k).count → k ≤ number
  held_in k a b c =
      le_or k number (λ below. below)
      (λ above. absurd (empty_none (subst (λ (z : Message). 1 ≤ z.count) (dropped_gone m.held number t long held_most k (le_refl held_most) a b above) c)))

  -- so it reaches no further there, and as far if it reaches no more than the number
  pub reach_back : reach_of (member_in m group number) ≤ reach_of m
  unfolding reach_of
  reach_back =
      let k : ℕ = smaller_of largest_number (t + held_most) - t in
      let new = row_is (dropped_of m.held number t held_most) t k in
      let most = new.most in
      let cap = (smaller_le largest_number (t + held_most)).1 in
      row_reach (row_is m.held t k) (reach_of (member_in m group number)) most
      (λ s lo hi.
      let near : s ≤ t + held_most = omega arith in
      let there = new.holds s lo hi in
      subst (λ (y : Message). 1 ≤ y.count) (dropped_same m.held number t long held_most s (le_refl held_most) lo near (held_in s lo near there)) there)

  pub reach_same : reach_of m ≤ number → reach_of (member_in m group number) ≡ reach_of m
  reach_same below =
      let a = reach_back in
      let b = reach_in_lem (reach_of m) (le_refl _) below in
      omega arith

  -- a group that was never begun leaves nothing behind
  module _ (old : Group) (cut : ℕ) (lower : number ≤ cut) where
    abbrev first : List Message
    first = dropped_of m.held cut t held_most

    twice_at : (s : ℕ) → t < s → s ≤ t + held_most → message_at (dropped_of first number t held_most) s ≡ message_at (dropped_of m.held number t held_most) s
    twice_at s a b =
        let size = dropped_length m.held cut t long held_most in
        le_or s number
        (λ below. dropped_same first number t size held_most s (le_refl held_most) a b below ∙ dropped_same m.held cut t long held_most s (le_refl held_most) a b (omega arith)
        ∙ sym (dropped_same m.held number t long held_most s (le_refl held_most) a b below))
        (λ above. dropped_gone first number t size held_most s (le_refl held_most) a b above ∙ sym (dropped_gone m.held number t long held_most s (le_refl held_most) a b above))

    held_twice : dropped_of first number t held_most ≡ dropped_of m.held number t held_most
    held_twice =
        let size = dropped_length first number t (dropped_length m.held cut t long held_most) held_most in
        ext_get_or blank _ _ (size ∙ sym (dropped_length m.held number t long held_most))
        (λ j l.
        let s : ℕ = t + 1 + (j + held_most - (t + 1) % held_most) % held_most in
        let p : place_of s ≡ j = omega arith in
        subst (λ (k : ℕ). get_or (dropped_of first number t held_most) k blank ≡ get_or (dropped_of m.held number t held_most) k blank) p (twice_at s (omega arith) (omega arith)))

    pub member_twice : member_in (member_in m old cut) group number ≡ member_in m group number
    member_twice = let h = held_twice in
        λ j. record {
          group = group;
          number = m.number;
          taken = m.taken;
          accepted = record { 0 = larger_of t number };
          submitted = m.submitted;
          waiting = m.waiting;
          queue = m.queue;
          held = h j;
        }

-- who is lost with the making, and who was
unfoldable pub lost_now : Group → (ℕ → List (List ℕ)) → (ℕ → List (List ℕ)) → ℕ → List (List ℕ)
lost_now group sb lost i = when is_in group.survivors i then sb i else lost i

module _ (group : Group) (line : ℕ) (s : Sequencer) (members : ℕ → Member) (order : List Ordered) (tk : ℕ → List Ordered) (sb lost : ℕ → List (List ℕ)) (packets : List (List ℕ))
    (v : Seen group line s members order tk sb lost packets)
    (group' : Group) (standing : Standing group') (same : group'.n ≡ group.n) (fits : group'.number ≤ largest_number) (within : (i : ℕ) → is_in group'.survivors i ≡ true → is_in group.survivors i ≡ true)
    (cut : ℕ) (high : cut ≤ length order) (low : (i : ℕ) → is_in group'.survivors i ≡ true → (members i).taken.0 ≤ cut)
    (s' : Sequencer) (begins : SequencerInv group' s' (take cut order)) (all : s'.accepted.0 ≡ cut)
    (floor : (i : ℕ) → is_in group'.survivors i ≡ true → taken_in s'.acknowledgements i ≤ reach_of (members i)) where
  abbrev members' : ℕ → Member
  members' i = member_in (members i) group' cut

  abbrev lost' : ℕ → List (List ℕ)
  lost' = lost_now group sb lost

  most : cut ≤ largest_number
  most =
      let size = length-take-le cut order high in
      let top = begins.top_is in
      let z = begins.typed.top in
      omega arith

  reaches_line : (i : ℕ) → cut ≤ (voices group' cut members' sb lost' i).reach
  unfolding voices
  reaches_line i = when_elim (λ (x : Voice). cut ≤ x.reach) (is_in group'.survivors i) (λ _. (larger_le (reach_of (members' i)) cut).1) (λ _. most)

  owns' : (i : ℕ) → i < group'.n → Owns i (take cut order) (lost' i)
  unfolding lost_now
  owns' i b =
      when_elim (λ (x : List (List ℕ)). Owns i (take cut order) x) (is_in group.survivors i) (λ e. owns_cut i cut order (sb i) (v.terminal i e).content.own_is)
      (λ e. owns_cut i cut order (lost i) (v.owns i (omega arith) e))

  sizes' : (i : ℕ) → length (lost' i) ≤ largest_number
  unfolding lost_now
  sizes' i =
      when_elim (λ (x : List (List ℕ)). length x ≤ largest_number) (is_in group.survivors i)
      (λ e. let h = (v.terminal i e).content in let z = h.typed.submitted in let y = h.submitted_is in omega arith) (λ e. v.sizes i e)

  pub made_seen : Seen group' cut s' members' (take cut order) tk sb lost' []
  made_seen =
      let size = length-take-le cut order high in
      let top = begins.top_is in
      record {
        standing = standing;
        sequencer = begins;
        confirmed =
            record {
              marked = λ k i a b e. absurd (omega arith);
              enough = others_count group' standing (λ i. s'.accepted.0 ≤? (voices group' cut members' sb lost' i).reach) (λ i. le-leb s'.accepted.0 (voices group' cut members' sb lost' i).reach (subst (λ (x : ℕ). x ≤ (voices group' cut members' sb lost' i).reach) (sym all) (reaches_line i)));
            };
        terminal = λ i e.
            let h = v.terminal i (within i e) in
            let m = members i in
            let lo = low i e in
            let sound = sequencerSoundness.sound_of_lem s' begins.sound in
            let entry = sound.taken_le i (subst (λ (g : Group). i < g.n) (sym begins.group_is) (survivor_lt group' standing i e)) in
            record {
              content =
                  content_cut i m order (tk i) (sb i) h.content group' standing (same ∙ sym (ap (λ (g : Group). g.n) h.seat.group_is)) fits
                  (subst (λ (k : ℕ). is_in group'.survivors k ≡ true) (sym h.seat.number_is) e) cut most lo high;
              seat =
                  record {
                    group_is = refl;
                    number_is = h.seat.number_is;
                    acknowledged_le = row_in m group' cut h.content.typed.held (taken_in s'.acknowledgements i) (floor i e) (omega arith);
                    accepted_le = subst (λ (x : ℕ). larger_of m.taken.0 cut ≤ x) (sym all) (le_larger m.taken.0 cut cut lo (le_refl cut));
                    plain = λ q k a b c. le_trans (held_in m group' cut h.content.typed.held k a b c) (larger_le m.taken.0 cut).1;
                  };
            };
        owns = λ i b e. owns' i b;
        sizes = λ i e. sizes' i;
        packets_known = tt;
      }
