-- What a result leaves is sound: the member, of which held messages are dropped, and the sequencer that begins. Assumes nothing.
use mathlib.Core.Path.{◌≡◌, refl, sym, ap, ◌∙◌, subst}
use mathlib.Core.Bool.{true, false}
use mathlib.Core.List.{List}
use Prim.Native.Nat.{ℕ, zero, suc, ◌+◌, ◌-◌, ◌≤◌}
use native.Mathlib.Nat.{le_refl}
use native.Mathlib.Omega.{arith}
use lib.ListN.{length, get_or, set, length-set}
use lib.Seq.{get_or-set_same, get_or-set_other}
use Rattle.group.proofs.Choice.{when_true, when_false}
use Rattle.group.proofs.Lists.{when_elim, eq_or}
use Rattle.group.proofs.Members.{Standing, survivor_lt}
use Rattle.group.specs.Choice.{◌≤?◌}
use Rattle.group.specs.Limits.{held_most, largest_number}
use Rattle.group.specs.Members.{is_in}
use Rattle.group.specs.declared.Group.{Group}
use Rattle.message.proofs.Kept.{empty_zero}
use Rattle.message.specs.Message.{Message, empty_message, blank, is_empty}
use Rattle.history.specs.State.{Acknowledgement, message_at}
use Rattle.member.proofs.Soundness as member
use Rattle.member.specs.Laws as memberLaws
use Rattle.member.specs.State.{Member, reach_of}
use Rattle.sequencer.proofs.Soundness as sequencer
use Rattle.sequencer.specs.State.{Sequencer}
use Rattle.window.proofs.Keeping.{empty_none}
use Rattle.window.proofs.Row.{larger_le}
use Rattle.window.proofs.Soundness.{HeldSound}
use Rattle.window.specs.Places as window
use Rattle.window.specs.Places.{larger_of}
use Rattle.recovery.specs.Begin.{begun, counts_in, elected_sequencer, history_from, dropped_of, member_in}
use Rattle.recovery.specs.Laws.{Typed}
use Rattle.recovery.specs.State.{Terminal, serves, reply_number, kept_floor, counts_of}
use Rattle.recovery.proofs.Beginning.{counts_at, counts_length, begun_sound, floor_reach, reach_floor, counts_size, counts_unused, message_facts, history_in, history_out}
use Rattle.recovery.proofs.Kept.{PastFacts, KeptSound}

-- held messages above a number are dropped, and the others stay
module _ (held : List Message) (number t : ℕ) (long : length held ≡ held_most) where
  pub dropped_length : (k : ℕ) → length (dropped_of held number t k) ≡ held_most
  unfolding dropped_of
  dropped_length zero = long
  dropped_length (suc k) =
      when_elim (λ (l : List Message). length l ≡ held_most) (t + suc k ≤? number) (λ _. dropped_length k)
      (λ _. length-set (dropped_of held number t k) (window.place_of (t + suc k)) empty_message ∙ dropped_length k)

  -- each place is as it was, or empty
  pub dropped_each : (P : Message → Type 0) (k : ℕ) → k ≤ held_most → (s : ℕ) → P (window.message_at held s) → P empty_message → P (window.message_at (dropped_of held number t k) s)
  unfolding dropped_of
  dropped_each P zero most s here gone = here
  dropped_each P (suc k) most s here gone =
      let l = dropped_length k in
      when_elim (λ (x : List Message). P (window.message_at x s)) (t + suc k ≤? number) (λ _. dropped_each P k (omega arith) s here gone)
      (λ _. eq_or (window.place_of s) (window.place_of (t + suc k))
      (λ q. subst (λ (i : ℕ). P (get_or (set (dropped_of held number t k) (window.place_of (t + suc k)) empty_message) i blank)) (sym q)
      (subst P (sym (get_or-set_same (dropped_of held number t k) (window.place_of (t + suc k)) empty_message blank (omega arith))) gone))
      (λ q. subst P (sym (get_or-set_other (dropped_of held number t k) (window.place_of (t + suc k)) (window.place_of s) empty_message blank q)) (dropped_each P k (omega arith) s here gone)))

-- a survivor's member
module _ (m : Member) (typed : memberLaws.Typed m) (sound : member.Sound m) (group : Group) (stands : Standing group) (same : group.n ≡ m.group.n)
    (inside : is_in group.survivors m.number.0 ≡ true) (number : ℕ) where
  pub member_in_lem : member.Sound (member_in m group number)
  member_in_lem =
      record {
        n_pos = stands.n_least;
        n_most = stands.n_most;
        resilient = stands.resilient;
        within = stands.within;
        elected_in = stands.elected_in;
        number_in = inside;
        number_lt = survivor_lt group stands m.number.0 inside;
        taken_le = (larger_le m.taken.0 number).0;
        waiting = sound.waiting;
        places =
            record {
              holds = λ k a b c.
                  dropped_each m.held number m.taken.0 typed.held (λ (x : Message). 1 ≤ x.count → HeldSound group.n k x) held_most (le_refl held_most) k
                  (λ d. rw same (sound.places.holds k a b d)) (λ d. absurd (empty_none d)) c;
              free = λ k a b c.
                  dropped_each m.held number m.taken.0 typed.held (λ (x : Message). x.count ≡ 0 → is_empty x ≡ true) held_most (le_refl held_most) k
                  (λ d. sound.places.free k a b d) (λ d. empty_zero) c;
            };
      }

-- the elected terminal's sequencer
module _ (t : Terminal) (typed : Typed t) (sound : member.Sound t.member) (kept : KeptSound t.member.group.n t.member.taken.0 t.kept)
    (ordered : serves t ≡ true → sequencer.Sound t.sequencer) (alike : serves t ≡ true → t.sequencer.group.n ≡ t.member.group.n)
    (group : Group) (stands : Standing group) (same : group.n ≡ t.member.group.n) (number : ℕ) (is : number ≡ reply_number t)
    (floor_fits : kept_floor t ≤ largest_number) where
  pub elected_sound : sequencer.Sound (elected_sequencer t group number)
  unfolding elected_sequencer reply_number
  elected_sound = when_elim sequencer.Sound (serves t) from_sequencer from_member
    where
      reply_top : serves t ≡ true → reply_number t ≡ t.sequencer.top.0
      reply_top e = sym (when_true (serves t) _ _ _ e refl)

      reply_reach : serves t ≡ false → reply_number t ≡ reach_of t.member
      reply_reach e = sym (when_false (serves t) _ _ _ e refl)

      from_sequencer : serves t ≡ true → sequencer.Sound (begun group number t.sequencer.floor.0 (counts_in t.sequencer.acknowledgements) t.sequencer.history)
      from_sequencer e =
          let s : Sequencer = t.sequencer in
          let f = ordered e in
          let n : s.group.n ≡ group.n = alike e ∙ sym same in
          let top : number ≡ s.top.0 = is ∙ reply_top e in
          let low = f.floor_le in
          let high = f.accepted_le in
          let wide = f.window in
          let most = typed.sequencer.top in
          begun_sound group stands number s.floor.0 (counts_in s.acknowledgements) s.history
          (counts_length s.acknowledgements ∙ typed.sequencer.table) (omega arith) (omega arith) (omega arith)
          (λ i h. counts_at s.acknowledgements i ∙ ap (λ (a : Acknowledgement). a.count) (f.unused i (omega arith)))
          (λ k a b.
          let x = f.kept k a (omega arith) in
          record {
            originator = rw (← n) x.originator;
            count_least = x.count_least;
            count_most = rw (counts_at s.acknowledgements (message_at s.history k).originator.0) x.count_most;
            short = x.short;
            zeros = x.zeros;
          })
          (λ k a b. f.empty k (omega arith) b)

      from_member : serves t ≡ false → sequencer.Sound (begun group number (kept_floor t) (counts_of t) (history_from t (kept_floor t) (reach_of t.member - kept_floor t)))
      from_member e =
          let reach : number ≡ reach_of t.member = is ∙ reply_reach e in
          let low = floor_reach t sound kept typed.counts in
          let high = reach_floor t sound kept typed.counts in
          let k = reach_of t.member - kept_floor t in
          begun_sound group stands number (kept_floor t) (counts_of t) (history_from t (kept_floor t) k)
          (counts_size t sound kept typed.counts) floor_fits (omega arith) (omega arith)
          (λ i h. counts_unused t sound kept typed.counts i (omega arith))
          (λ s a b. subst (PastFacts group.n (counts_of t)) (sym (history_in t (kept_floor t) k s (omega arith) a (omega arith)))
          (rw same (message_facts t sound kept typed.counts s a (omega arith))))
          (λ s a b. history_out t (kept_floor t) k s (omega arith) (omega arith) b)
