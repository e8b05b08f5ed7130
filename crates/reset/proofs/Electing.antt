-- Any survivor can begin a group, from its group's sequencer or from its member, with the result of the group made last or without it: the sequencer that
-- begins has the order up to what the terminal would reply. Assumes nothing.
use mathlib.Core.Path.{◌≡◌, refl, sym, ap, ◌∙◌, subst}
use mathlib.Core.Bool.{Bool, true, false}
use mathlib.Core.List.{List, [], ◌∷◌}
use Prim.Native.Nat.{ℕ, suc, ◌-◌, ◌≤◌, ◌<◌}
use native.Mathlib.Nat.{le_refl, le_trans}
use native.Mathlib.Omega.{arith}
use borrow.Author.Tests.{eqb-true}
use lib.ListN.{length, get_or, take, length-take}
use Rattle.group.proofs.Choice.{when_true, when_false, both_first, both_then}
use Rattle.group.proofs.Lists.{when_elim, eq_or}
use Rattle.group.proofs.Members.{Standing}
use Rattle.group.specs.Choice.{when◌then◌else◌, ◌=?◌}
use Rattle.group.specs.Limits.{places_most, largest_number}
use Rattle.group.specs.Members.{is_in}
use Rattle.group.specs.declared.Group as description
use Rattle.message.proofs.Owning.{Owns}
use Rattle.message.specs.Order.{Ordered, Submission, own_of}
use Rattle.member.proofs.Acknowledged.{reach_most}
use Rattle.member.proofs.Invariant.{Content}
use Rattle.member.specs.State.{Member, reach_of}
use Rattle.sequencer.proofs.Invariant.{SequencerInv}
use Rattle.sequencer.proofs.Soundness as sequencerSoundness
use Rattle.sequencer.specs.Sound as sequencerSpecs
use Rattle.sequencer.specs.State.{Sequencer}
use Rattle.window.proofs.Row.{le_larger, smaller_le}
use Rattle.window.specs.Places.{larger_of}
use Rattle.recovery.proofs.Beginning.{floor_reach, reach_floor}
use Rattle.recovery.proofs.Keeping.{sound_of_lem}
use Rattle.recovery.proofs.Kept.{KeptSound}
use Rattle.recovery.specs.Begin.{elected_sequencer}
use Rattle.recovery.specs.Calls as terminal
use Rattle.recovery.specs.Sound.{sequencer_sound}
use Rattle.recovery.specs.State.{Terminal, serves, reply_number, kept_floor, counts_of}
use Rattle.reset.specs.Course.{Course}
use Rattle.reset.proofs.Able.{Numbered, counts_reach, able}
use Rattle.reset.proofs.Begun.{from_member, elected_member, elected_own, Same, from_same, cut_same}
use Rattle.reset.proofs.Elected.{begun_inv}
use Rattle.reset.proofs.Invariant.{group_in, Low, Survivor, Inv}
use Rattle.reset.proofs.Keep.{top_le, taken_same}
use Rattle.reset.proofs.Made.{reach_back}
use Rattle.reset.proofs.Numbering.{seen_floor}
use Rattle.reset.proofs.Remembering.{Remembers}
use Rattle.reset.proofs.View.{member_of, member_here, member_there}

-- own messages are at most all
own_short : (o : ℕ) (l : List Ordered) → length (own_of o l) ≤ length l
unfolding own_of
own_short o [] = le_refl 0
own_short o (m ∷ l) =
    let z = own_short o l in
    when_elim (λ (x : List Submission). length x ≤ suc (length l)) (m.originator =? o) (λ _. omega arith) (λ _. omega arith)

-- its sequencer is of a group of as many
serves_size : (t : Terminal) → sequencer_sound t ≡ true → t.sequencing ≡ true → t.sequencer.group.n ≡ t.member.group.n
unfolding sequencer_sound
serves_size t sound sequencing =
    eqb-true _ _ (both_then (sequencerSpecs.sound_of t.sequencer) _ (when_true t.sequencing _ _ _ sequencing refl ∙ sound))

module _ (n resilience line : ℕ) (c : Course) (at : ℕ → Terminal) (packets : List (List ℕ)) (tk : ℕ → List Ordered) (sb : ℕ → List (List ℕ)) (v : Inv n resilience line c at packets tk sb)
    (e : ℕ) (b : e < n) (inside : is_in c.survivors e ≡ true) where
  abbrev group : description.Group
  group = group_in n resilience c

  abbrev cut : ℕ
  cut = v.cut

  abbrev t : Terminal
  t = at e

  abbrev h : Survivor n resilience c v.under cut (Low n resilience c cut at) e t
  h = (v.sits e b).survivor inside

  abbrev view : Member
  view = member_of group cut t

  -- what it reaches it reaches in the view
  pub reach_view : reach_of view ≤ reach_of t.member
  reach_view =
      eq_or t.member.group.number c.number (λ q. subst (λ (m : Member). reach_of m ≤ reach_of t.member) (sym (member_here group cut t q)) (le_refl _))
      (λ q. subst (λ (m : Member). reach_of m ≤ reach_of t.member) (sym (member_there group cut t q)) (reach_back t.member group cut h.typed.member.held))

  -- its terminal with the member as it is in the view
  abbrev seen_as : Terminal
  seen_as = terminal.with_member t view t.kept

  served : serves t ≡ true → reply_number t ≡ t.sequencer.top.0
  unfolding reply_number
  served q = sym (when_true (serves t) _ _ _ q refl)

  not_served : serves t ≡ false → reply_number t ≡ reach_of t.member
  unfolding reply_number
  not_served q = sym (when_false (serves t) _ _ _ q refl)

  view_same : serves t ≡ false → Same t seen_as
  view_same s =
      eq_or t.member.group.number c.number
      (λ q. subst (λ (m : Member). Same t (terminal.with_member t m t.kept)) (sym (member_here group cut t q)) (record { read = refl; reach = refl; counts = refl; message = λ s a b. refl }))
      (λ q. subst (λ (m : Member). Same t (terminal.with_member t m t.kept)) (sym (member_there group cut t q))
      (cut_same t group cut h.typed.member.held (let x = h.reply_le q in let y = not_served s in omega arith)))

  -- what it would reply is in the order
  pub reply_order : reply_number t ≤ length c.order
  reply_order = go (serves t) refl
    where
      go : (x : Bool) → serves t ≡ x → reply_number t ≤ length c.order
      go true q = let a = top_le t.sequencer.group t.sequencer c.order (h.serving q) in let d = served q in omega arith
      go false q =
          let a = reach_most (v.seen.terminal e inside).content in
          let d = (view_same q).reach in
          let f = not_served q in
          omega arith

  -- each one's submissions
  abbrev submitted : ℕ → List (List ℕ)
  submitted o = when is_in c.survivors o then sb o else v.lost o

  owns : (o : ℕ) → o < n → Owns o c.order (submitted o)
  owns o less =
      when_elim (λ (x : List (List ℕ)). Owns o c.order x) (is_in c.survivors o) (λ q. (v.seen.terminal o q).content.own_is) (λ q. v.seen.owns o less q)

  view_size : view.group.n ≡ n
  view_size = ap (λ (g : description.Group). g.n) (v.seen.terminal e inside).seat.group_is

  numbered : Numbered view.group.n c.order submitted
  numbered =
      let s = v.seen.sequencer in
      subst (λ (k : ℕ). Numbered k c.order submitted) (sym view_size)
      (record { number_is = s.number_is; originator_ok = s.originator_ok; payload_ok = s.payload_ok; owns = owns })

  content : Content e view c.order (tk e) (submitted e)
  content = subst (λ (x : List (List ℕ)). Content e view c.order (tk e) x) (when_true (is_in c.survivors e) _ _ _ inside refl) (v.seen.terminal e inside).content

  remembers : Remembers view.taken.0 t.kept c.order
  remembers = subst (λ (k : ℕ). Remembers k t.kept c.order) (sym (taken_same group cut t)) h.remembers

  kept : KeptSound view.group.n view.taken.0 t.kept
  kept =
      let s = (sound_of_lem t h.sound).kept in
      let a : t.member.group.n ≡ view.group.n = h.size ∙ sym view_size in
      let d : t.member.taken.0 ≡ view.taken.0 = sym (taken_same group cut t) in
      subst (λ (k : ℕ). KeptSound view.group.n k t.kept) d (subst (λ (k : ℕ). KeptSound k t.member.taken.0 t.kept) a s)

  order_fits : length c.order ≤ largest_number
  order_fits = let a = v.seen.sequencer.top_is in let d = v.seen.sequencer.typed.top in omega arith

  reach_le : reach_of view ≤ length c.order
  reach_le = reach_most (v.seen.terminal e inside).content

  counts_fit : (o : ℕ) → get_or (counts_of seen_as) o 0 ≤ largest_number
  counts_fit o =
      let a = counts_reach seen_as e c.order (tk e) submitted content numbered remembers kept h.typed.counts reach_le o in
      let d = own_short o (take (reach_of view) c.order) in
      let f : length (take (reach_of view) c.order) ≤ length c.order = simp length-take (omega arith) in
      let g = order_fits in
      omega arith

  module _ (group' : description.Group) (standing : Standing group') (same : group'.n ≡ n) (fits : group'.number ≤ largest_number) where
    pub elected_inv : SequencerInv group' (elected_sequencer t group' (reply_number t)) (take (reply_number t) c.order)
    elected_inv = go (serves t) refl
      where
        go : (x : Bool) → serves t ≡ x → SequencerInv group' (elected_sequencer t group' (reply_number t)) (take (reply_number t) c.order)
        go true q =
            let s = t.sequencer in
            let size : group'.n ≡ s.group.n = same ∙ sym (serves_size t (sound_of_lem t h.sound).sequencer (both_first t.sequencing _ q) ∙ h.size) in
            let inv = begun_inv s.group s (take s.top.0 c.order) (h.serving q) group' standing size fits in
            subst (λ (k : ℕ). SequencerInv group' (elected_sequencer t group' k) (take k c.order)) (sym (served q))
            (subst (λ (y : Sequencer). SequencerInv group' y (take s.top.0 c.order)) (sym (elected_own t group' s.top.0 q)) inv)
        go false q =
            let sound = sound_of_lem t h.sound in
            let alike = view_same q in
            let inv = able seen_as e c.order (tk e) submitted content numbered remembers kept h.typed.counts reach_le group' standing (same ∙ sym view_size) fits counts_fit in
            let from : from_member seen_as group' (reach_of view) ≡ from_member t group' (reach_of view) =
            from_same t seen_as alike (floor_reach t sound.member sound.kept h.typed.counts) (reach_floor t sound.member sound.kept h.typed.counts) group' (reach_of view) in
            subst (λ (k : ℕ). SequencerInv group' (elected_sequencer t group' k) (take k c.order)) (alike.reach ∙ sym (not_served q))
            (subst (λ (y : Sequencer). SequencerInv group' y (take (reach_of view) c.order)) (from ∙ sym (elected_member t group' (reach_of view) q)) inv)

  -- its floor is low
  member_low : Low n resilience c cut at (kept_floor t)
  unfolding kept_floor
  member_low j q =
      let read = h.read_low j q in
      let low = seen_floor group line _ (λ k. member_of group cut (at k)) c.order tk sb v.lost v.known v.seen j q in
      let top = v.seen.sequencer.top_is in
      let wide = (sequencerSoundness.sound_of_lem _ v.seen.sequencer.sound).window in
      let reach : reach_of t.member ≤ length c.order = (let x = h.reach_le in let y = reply_order in omega arith) in
      let both = le_larger t.kept.read.0 (reach_of t.member - places_most) (reach_of (member_of group cut (at j))) read (omega arith) in
      le_trans (smaller_le (larger_of t.kept.read.0 (reach_of t.member - places_most)) (reach_of t.member)).0 both

  pub elected_low : (group' : description.Group) (k : ℕ) → Low n resilience c cut at (elected_sequencer t group' k).floor.0
  unfolding elected_sequencer
  elected_low group' k = when_elim (λ (y : Sequencer). Low n resilience c cut at y.floor.0) (serves t) (λ q. h.floor_low q) (λ _. member_low)
