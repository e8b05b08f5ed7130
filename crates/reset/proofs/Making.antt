-- A making, in the world: its survivors, as the result will leave them, have the invariant of the made group. Assumes nothing.
use Rattle.std.specs.Prelude.{Ok}
use mathlib.Core.Path.{◌≡◌, refl, sym, ap, ◌∙◌, subst}
use mathlib.Core.Logic.{◌≢◌}
use mathlib.Core.Bool.{Bool, true, false, false≢true}
use mathlib.Core.Option.{some}
use mathlib.Core.List.{List, [], ◌∷◌, ◌++◌, append-nil}
use Prim.Native.Nat.{ℕ, ◌^◌, ◌≤◌, ◌<◌}
use native.Mathlib.Nat.{lt_of_lt_of_le}
use native.Mathlib.Omega.{arith}
use lib.Bits.{bit_and, mask_lt}
use lib.ListN.{length, get_or, take, get_elem?}
use lib.Pow.{pow_mono}
use lib.Seq.{take-take}
use Rattle.big_endian.proofs.Number.{number_of_bytes}
use Rattle.big_endian.specs.Number.{number_at, bytes_of}
use Rattle.group.proofs.Choice.{when_true}
use Rattle.group.proofs.Lists.{when_elim, eq_or, all_append, all_map, all_get}
use Rattle.group.proofs.Members.{Standing, survivor_lt}
use Rattle.group.specs.Limits.{members_most, longest_packet, largest_number}
use Rattle.group.specs.Members.{is_in, all_of}
use Rattle.group.specs.declared.Group as description
use Rattle.history.proofs.Soundness.{taken_in}
use Rattle.history.specs.State.{Acknowledgement}
use Rattle.message.specs.Order.{Ordered}
use Rattle.member.proofs.Acknowledged.{reach_least}
use Rattle.member.proofs.Invariant.{Content}
use Rattle.member.specs.State.{Member, reach_of}
use Rattle.packet.proofs.Laws.{content_fields, fields_group}
use Rattle.packet.proofs.Permitted.{result_fields}
use Rattle.packet.proofs.Verdicts.{accepted}
use Rattle.packet.specs.Laws.{Fits}
use Rattle.packet.specs.Packet.{read_of, content_of, fields_of, packet_of, survivors_in, survivors_size}
use Rattle.packet.specs.declared.Header.{Header}
use Rattle.packet.specs.declared.Packet.{Packet}
use Rattle.packet.specs.Answers.{Reading}
use Rattle.sequencer.proofs.Invariant.{SequencerInv}
use Rattle.sequencer.specs.State.{Sequencer}
use Rattle.recovery.proofs.Beginning.{table_entry, counts_length, counts_size}
use Rattle.recovery.proofs.Choosing.{cut_most, chosen_replied}
use Rattle.recovery.proofs.Keeping.{sound_of_lem}
use Rattle.recovery.specs.Begin.{cut_of, chosen_of, made_group, member_in, counts_in, table_from, elected_sequencer, result_of}
use Rattle.recovery.specs.Calls as terminal
use Rattle.recovery.specs.Sound.{terminal_sound}
use Rattle.recovery.specs.State.{Reset, Terminal, serves, reply_number, kept_floor, counts_of}
use Rattle.reset.specs.Course.{Course}
use Rattle.reset.proofs.Electing.{reach_view, reply_order, elected_inv, elected_low}
use Rattle.reset.proofs.Following.{Begun, begins, stays, left_begun, left_member, left_kept, left_reset, resulted_sits, replied_frozen}
use Rattle.reset.proofs.Invariant.{Has, Busy, Foreign, group_in, Low, Survivor, Sits, Answered, Open, SaysReset, Covered, ours, elsewhere, resets, Inv}
use Rattle.reset.proofs.Keep.{taken_same}
use Rattle.reset.proofs.Made.{reach_in_lem, member_twice, lost_now, made_seen}
use Rattle.reset.proofs.Remembering.{cut_remembers}
use Rattle.reset.proofs.Same.{known_plain}
use Rattle.reset.proofs.Seen.{Seen, same_seen}
use Rattle.reset.proofs.View.{member_of, sequencer_of, member_here, member_there, sequencer_here, sequencer_there}
use Rattle.reset.proofs.Writing.{reads_back}

-- the course with a group made by the open attempt
abbrev pub made_from : Course → ℕ → ℕ → ℕ → Course
made_from c last survivors elected =
    record {
      order = take last c.order;
      survivors = survivors;
      elected = elected;
      number = c.attempt;
      attempt = c.attempt;
      initiator = c.initiator;
      used = c.used;
    }

-- who begins has every acknowledgement at the floor
begun_table : (t : Terminal) (group : description.Group) (k j : ℕ) → terminal_sound t ≡ true → length t.kept.counts ≡ members_most → length t.sequencer.acknowledgements ≡ members_most → j < members_most → is_in group.survivors j ≡ true
    → taken_in (elected_sequencer t group k).acknowledgements j ≡ (elected_sequencer t group k).floor.0
unfolding elected_sequencer
begun_table t group k j sound long table less e =
    when_elim (λ (s : Sequencer). taken_in s.acknowledgements j ≡ s.floor.0) (serves t)
    (λ _. entry t.sequencer.floor.0 (counts_in t.sequencer.acknowledgements) (let z = counts_length t.sequencer.acknowledgements in omega arith))
    (λ _. entry (kept_floor t) (counts_of t) (let s = sound_of_lem t sound in let z = counts_size t s.member s.kept long in omega arith))
  where
    entry : (floor : ℕ) (counts : List ℕ) → j < length counts → taken_in (table_from group.survivors floor 0 counts) j ≡ floor
    entry floor counts l = ap (λ (a : Acknowledgement). a.taken.0) (table_entry group.survivors floor counts j l) ∙ sym (when_true (is_in group.survivors j) _ _ _ e refl)

begun_accepted : (t : Terminal) (group : description.Group) (k : ℕ) → (elected_sequencer t group k).accepted.0 ≡ k
unfolding elected_sequencer
begun_accepted t group k = when_elim (λ (s : Sequencer). s.accepted.0 ≡ k) (serves t) (λ _. refl) (λ _. refl)

module _ (n resilience line : ℕ) (c : Course) (at : ℕ → Terminal) (packets : List (List ℕ)) (tk : ℕ → List Ordered) (sb : ℕ → List (List ℕ)) (v : Inv n resilience line c at packets tk sb)
    (i : ℕ) (b : i < n) (mine : c.initiator ≡ i) (inviting : (at i).reset.inviting ≡ true) where
  abbrev group : description.Group
  group = group_in n resilience c

  abbrev cut : ℕ
  cut = v.cut

  abbrev t : Terminal
  t = at i

  abbrev r : Reset
  r = t.reset

  abbrev last : ℕ
  last = cut_of r

  abbrev mask : ℕ
  mask = r.repliers

  abbrev e : ℕ
  e = (chosen_of r).0

  pub busy : Busy c
  busy d = false≢true (sym (subst (λ (k : ℕ). (at k).reset.inviting ≡ false) mine (v.shut d)) ∙ inviting)

  opened : Open c at r
  opened = subst (λ (k : ℕ). Open c at (at k).reset) mine (v.opened busy)

  pub attempt_is : r.invited ≡ c.attempt
  attempt_is = opened.invited_is

  pub itself : is_in mask i ≡ true
  itself = subst (λ (k : ℕ). is_in mask k ≡ true) mine opened.itself

  answered : (j : ℕ) → is_in mask j ≡ true → Answered c at j (get_or r.replies j 0)
  answered = opened.answered

  pub survives : (j : ℕ) → is_in mask j ≡ true → is_in c.survivors j ≡ true
  survives j q = (answered j q).survives

  pub below : (j : ℕ) → is_in mask j ≡ true → j < n
  below j q = survivor_lt group v.seen.standing j (survives j q)

  below_most : (j : ℕ) → is_in mask j ≡ true → j < members_most
  below_most j q = let z = below j q in let y = v.seen.standing.n_most in omega arith

  pub stands_at : (j : ℕ) → is_in mask j ≡ true → Survivor n resilience c v.under cut (Low n resilience c cut at) j (at j)
  stands_at j q = (v.sits j (below j q)).survivor (survives j q)

  abbrev h : Survivor n resilience c v.under cut (Low n resilience c cut at) i t
  h = stands_at i itself

  -- no reply is above where the order ends
  pub reply_most : (j : ℕ) → is_in mask j ≡ true → reply_number (at j) ≤ last
  reply_most j q =
      let a = (answered j q).number_is in
      let long = h.typed.replies in
      let l = below_most j q in
      let z = cut_most r j (omega arith) q in
      omega arith

  chosen : (is_in mask e ≡ true) × (get_or r.replies e 0 ≡ last)
  chosen = chosen_replied r h.typed.replies i (below_most i itself) itself

  pub chosen_in_lem : is_in mask e ≡ true
  chosen_in_lem = chosen.0

  pub chosen_reply : reply_number (at e) ≡ last
  chosen_reply = (answered e chosen_in_lem).number_is ∙ chosen.1

  -- they are in one group
  together : (j : ℕ) → is_in mask j ≡ true → (at j).member.group.number ≡ t.member.group.number
  together j q = (answered j q).group_is ∙ ap (λ (k : ℕ). (at k).member.group.number) mine

  -- so none without the result replied above where the group before began
  lower : (j : ℕ) → is_in mask j ≡ true → (at j).member.group.number ≢ c.number → last ≤ cut
  lower j q away = let x = (stands_at e chosen_in_lem).reply_le (λ z. away (together j q ∙ sym (together e chosen_in_lem) ∙ z)) in let y = chosen_reply in omega arith

  -- nothing has the number yet
  unmade : (j : ℕ) → j < n → (at j).member.group.number ≢ c.attempt
  unmade j l q = go (is_in c.survivors j) refl
    where
      go : (x : Bool) → is_in c.survivors j ≡ x → ⊥
      go false z = ((v.sits j l).lost z).unmade q
      go true z = eq_or (at j).member.group.number c.number (λ y. busy (sym q ∙ y)) (λ y. (((v.sits j l).survivor z).foreign y).unmade q)

  unmade_sequencer : (j : ℕ) → j < n → (at j).sequencing ≡ true → (at j).sequencer.group.number ≢ c.attempt
  unmade_sequencer j l s q = eq_or (at j).sequencer.group.number c.number (λ y. busy (sym q ∙ y)) (λ y. ((v.sits j l).old s y).unmade q)

  abbrev c' : Course
  c' = made_from c last mask e

  abbrev group' : description.Group
  group' = group_in n resilience c'

  foreign : {x : ℕ} → Foreign c x → Foreign c' x
  foreign f = record { used = f.used; unlike = f.unmade; unmade = f.unmade }

  -- the group's own number is another's from now on
  foreign_own : Foreign c' c.number
  foreign_own = record { used = v.number_used; unlike = λ q. busy (sym q); unmade = λ q. busy (sym q) }

  foreign_member : (j : ℕ) → j < n → Foreign c' (at j).member.group.number
  foreign_member j l = go (is_in c.survivors j) refl
    where
      go : (x : Bool) → is_in c.survivors j ≡ x → Foreign c' (at j).member.group.number
      go false z = foreign ((v.sits j l).lost z)
      go true z = eq_or (at j).member.group.number c.number (λ y. subst (Foreign c') (sym y) foreign_own) (λ y. foreign (((v.sits j l).survivor z).foreign y))

  foreign_sequencer : (j : ℕ) → j < n → (at j).sequencing ≡ true → Foreign c' (at j).sequencer.group.number
  foreign_sequencer j l s = eq_or (at j).sequencer.group.number c.number (λ y. subst (Foreign c') (sym y) foreign_own) (λ y. foreign ((v.sits j l).old s y))

  number_fits : c.attempt ≤ largest_number
  number_fits = subst (λ (k : ℕ). k ≤ largest_number) attempt_is h.invited

  standing' : Standing group'
  standing' =
      let s = v.seen.standing in
      record {
        n_least = s.n_least;
        n_most = s.n_most;
        resilient = s.resilient;
        within = subst (λ (k : ℕ). bit_and mask (all_of k) ≡ mask) h.size ((sound_of_lem t h.sound).reset.members inviting);
        elected_in = chosen_in_lem;
      }

  pub mask_small : mask < 2 ^ members_most
  mask_small =
      let is : bit_and mask (all_of n) ≡ mask = standing'.within in
      let most = v.seen.standing.n_most in
      let less : mask < 2 ^ n = subst (λ (x : ℕ). x < 2 ^ n) is (mask_lt mask n) in
      lt_of_lt_of_le less (pow_mono {i = n} {j = members_most} most)

  -- the elected one's sequencer
  abbrev s' : Sequencer
  s' = elected_sequencer (at e) group' last

  inv' : SequencerInv group' s' (take last c.order)
  inv' =
      subst (λ (k : ℕ). SequencerInv group' (elected_sequencer (at e) group' k) (take k c.order)) chosen_reply
      (elected_inv n resilience line c at packets tk sb v e (below e chosen_in_lem) (survives e chosen_in_lem) group' standing' refl number_fits)

  pub last_order : last ≤ length c.order
  last_order = subst (λ (k : ℕ). k ≤ length c.order) chosen_reply (reply_order n resilience line c at packets tk sb v e (below e chosen_in_lem) (survives e chosen_in_lem))

  floor_low : Low n resilience c cut at s'.floor.0
  floor_low = elected_low n resilience line c at packets tk sb v e (below e chosen_in_lem) (survives e chosen_in_lem) group' last

  -- what is low lies within the order as cut
  low_last : (x : ℕ) → Low n resilience c cut at x → x ≤ last
  low_last x l =
      let a = l e (survives e chosen_in_lem) in
      let d = reach_view n resilience line c at packets tk sb v e (below e chosen_in_lem) (survives e chosen_in_lem) in
      let f = (stands_at e chosen_in_lem).reach_le in
      let g = chosen_reply in
      omega arith

  taken_last : (j : ℕ) → is_in mask j ≡ true → (at j).member.taken.0 ≤ last
  taken_last j q =
      let a = reach_least (at j).member in
      let d = (stands_at j q).reach_le in
      let f = reply_most j q in
      omega arith

  seen_made : Seen group' last s' (λ j. member_in (member_of group cut (at j)) group' last) (take last c.order) tk sb (lost_now group sb v.lost) []
  seen_made =
      made_seen group line (sequencer_of group cut (at c.elected)) (λ j. member_of group cut (at j)) c.order tk sb v.lost v.known v.seen group' standing' refl number_fits survives last last_order
      (λ j q. subst (λ (k : ℕ). k ≤ last) (sym (taken_same group cut (at j))) (taken_last j q)) s' inv' (begun_accepted (at e) group' last)
      (λ j q.
      let x = begun_table (at e) group' last j (stands_at e chosen_in_lem).sound (stands_at e chosen_in_lem).typed.counts (stands_at e chosen_in_lem).typed.sequencer.table (below_most j q) q in
      let y = floor_low j (survives j q) in
      omega arith)

  -- a survivor's member, as the result will leave it
  twice : (j : ℕ) → is_in mask j ≡ true → member_in (member_of group cut (at j)) group' last ≡ member_in (at j).member group' last
  twice j q =
      eq_or (at j).member.group.number c.number (λ z. ap (λ (m : Member). member_in m group' last) (member_here group cut (at j) z))
      (λ z. ap (λ (m : Member). member_in m group' last) (member_there group cut (at j) z) ∙ member_twice (at j).member group' last (stands_at j q).typed.member.held group cut (lower j q z))

  -- the initiator has the result
  abbrev t' : Terminal
  t' = result_of t r.invited (chosen_of r) (record { 0 = last }) mask

  made_is : made_group t.member.group r.invited (chosen_of r) mask ≡ group'
  made_is =
      let a = h.size in
      let d = h.resilient in
      let k = attempt_is in
      λ j. record { n = a j; resilience = d j; survivors = mask; elected = chosen_of r; number = k j }

  member_is : t'.member ≡ member_in t.member group' last
  member_is = left_member t r.invited (chosen_of r) (record { 0 = last }) mask ∙ ap (λ (g : description.Group). member_in t.member g last) made_is

  number_here : t'.member.group.number ≡ c.attempt
  number_here = ap (λ (m : Member). m.group.number) member_is

  which : Begun e i s' t t'
  which = go (left_begun t r.invited (chosen_of r) (record { 0 = last }) mask)
    where
      begun_is : i ≡ e → elected_sequencer t (made_group t.member.group r.invited (chosen_of r) mask) last ≡ s'
      begun_is q = ap (λ (g : description.Group). elected_sequencer t g last) made_is ∙ ap (λ (k : ℕ). elected_sequencer (at k) group' last) q

      go : Begun e t.member.number.0 (elected_sequencer t (made_group t.member.group r.invited (chosen_of r) mask) last) t t' → Begun e i s' t t'
      go (begins q a f s) = let z : i ≡ e = sym h.itself ∙ q in begins z a f (s ∙ begun_is z)
      go (stays q a f s) = stays (λ z. q (h.itself ∙ z)) a f s

  -- the result's packet
  abbrev fields : Header
  fields = fields_of t.member.group.number (Packet.Result t.member.number r.invited (chosen_of r) (record { 0 = last }))

  pub survivors_back : survivors_in (bytes_of survivors_size mask) ≡ mask
  survivors_back = ap (λ (l : List ℕ). number_at survivors_size l 0) (sym (append-nil (bytes_of survivors_size mask))) ∙ number_of_bytes survivors_size mask [] mask_small

  last_fits : last ≤ largest_number
  last_fits = let x = last_order in let y = v.seen.sequencer.top_is in let z = v.seen.sequencer.typed.top in omega arith

  pub fields_fit : Fits fields
  unfolding fields_of
  fields_fit =
      let z = h.itself in
      let y = v.seen.standing.n_most in
      let x = below e chosen_in_lem in
      record { kind = omega arith; member = omega arith; group = h.typed.member.group; a = h.invited; b = omega arith; c = last_fits }

  module _ (at' : ℕ → Terminal) (here : at' i ≡ t') (rest : (j : ℕ) → j ≢ i → at' j ≡ at j) (sound' : terminal_sound t' ≡ true) where
    members_are : (j : ℕ) → is_in mask j ≡ true → member_of group' last (at' j) ≡ member_in (member_of group cut (at j)) group' last
    members_are j q =
        eq_or j i
        (λ z. subst (λ (k : ℕ). member_of group' last (at' k) ≡ member_in (member_of group cut (at k)) group' last) (sym z)
        (ap (member_of group' last) here ∙ member_here group' last t' number_here ∙ member_is ∙ sym (twice i itself)))
        (λ z. ap (member_of group' last) (rest j z) ∙ member_there group' last (at j) (unmade j (below j q)) ∙ sym (twice j q))

    view_is : sequencer_of group' last (at' e) ≡ s'
    view_is =
        eq_or e i
        (λ z. ap (λ (k : ℕ). sequencer_of group' last (at' k)) z ∙ ap (sequencer_of group' last) here ∙ sequencer_here group' last t' number_here ∙ own which (sym z))
        (λ z. ap (sequencer_of group' last) (rest e z) ∙ sequencer_there group' last (at e) (unmade e (below e chosen_in_lem)))
      where
        own : Begun e i s' t t' → i ≡ e → t'.sequencer ≡ s'
        own (begins q a f s) z = s
        own (stays q a f s) z = absurd (q z)

    -- what is low stays so
    low_made : (x : ℕ) → Low n resilience c cut at x → Low n resilience c' last at' x
    low_made x l j q =
        subst (λ (m : Member). x ≤ reach_of m) (sym (members_are j q))
        (reach_in_lem (member_of group cut (at j)) group' last (v.seen.terminal j (survives j q)).content.typed.held x (l j (survives j q)) (low_last x l))

    seen' : Seen group' last (sequencer_of group' last (at' e)) (λ j. member_of group' last (at' j)) (take last c.order) tk sb (lost_now group sb v.lost) []
    seen' =
        subst (λ (x : Sequencer). Seen group' last x (λ j. member_of group' last (at' j)) (take last c.order) tk sb (lost_now group sb v.lost) []) (sym view_is)
        (same_seen group' last s' (λ j. member_in (member_of group cut (at j)) group' last) (λ j. member_of group' last (at' j)) (take last c.order) tk tk sb sb (lost_now group sb v.lost) [] members_are (λ j _. refl) (λ j _. refl) seen_made)

    frozen_at : (j : ℕ) → is_in mask j ≡ true → (at j).sequencing ≡ true → (at j).frozen ≡ true
    frozen_at j q s = replied_frozen n resilience c v.under cut (Low n resilience c cut at) j (at j) (v.sits j (below j q)) (survives j q) (answered j q).replied s

    own_sits : Sits n resilience c' t.member.group.number last (Low n resilience c' last at') i t'
    own_sits =
        resulted_sits n resilience c' t.member.group.number last (Low n resilience c' last at') i t t' itself member_is (left_kept t r.invited (chosen_of r) (record { 0 = last }) mask)
        (left_reset t r.invited (chosen_of r) (record { 0 = last }) mask) s' inv' which h.itself sound' (tk i) (sb i)
        (subst (λ (m : Member). Content i m (take last c.order) (tk i) (sb i)) (twice i itself ∙ sym member_is) (seen_made.terminal i itself).content) h.typed.past h.typed.counts h.typed.sequencer
        (cut_remembers t.member.taken.0 t.kept c.order h.remembers last (taken_last i itself)) (low_made _ h.read_low) (low_made _ floor_low) (foreign_sequencer i b) (frozen_at i itself)

    served_top : (j : ℕ) → is_in mask j ≡ true → serves (at j) ≡ true → (at j).sequencer.top.0 ≤ last
    unfolding reply_number
    served_top j q z = let x = reply_most j q in let y : (at j).sequencer.top.0 ≡ reply_number (at j) = when_true (serves (at j)) _ _ _ z refl in omega arith

    other_survivor : (j : ℕ) → is_in mask j ≡ true → Survivor n resilience c' t.member.group.number last (Low n resilience c' last at') j (at j)
    other_survivor j q =
        let s = stands_at j q in
        let old = unmade j (below j q) in
        record {
          sound = s.sound;
          typed = s.typed;
          invited = s.invited;
          size = s.size;
          resilient = s.resilient;
          itself = s.itself;
          remembers = cut_remembers (at j).member.taken.0 (at j).kept c.order s.remembers last (taken_last j q);
          serving = λ z. subst (SequencerInv (at j).sequencer.group (at j).sequencer) (sym (take-take (at j).sequencer.top.0 last c.order (served_top j q z))) (s.serving z);
          reach_le = s.reach_le;
          floor_low = λ z. low_made _ (s.floor_low z);
          read_low = low_made _ s.read_low;
          calm = λ z. absurd (old z);
          under_is = λ _. together j q;
          foreign = λ _. foreign_member j (below j q);
          waits = λ _. (answered j q).replied;
          reply_le = λ _. reply_most j q;
          awake = λ x y. absurd (false≢true (sym y ∙ frozen_at j q x));
          present = λ _ z. absurd (old z);
          wakes = λ _ z. absurd (old z);
          cut_is = λ z _. ap (λ (k : ℕ). reply_number (at k)) z ∙ chosen_reply;
        }

    other_sits : (j : ℕ) → j < n → Sits n resilience c' t.member.group.number last (Low n resilience c' last at') j (at j)
    other_sits j l =
        record {
          lost = λ _. foreign_member j l;
          old = λ s _. foreign_sequencer j l s;
          only = λ s z. absurd (unmade_sequencer j l s z);
          survivor = other_survivor j;
        }

    -- the packets
    says : (number : ℕ) (content : Packet) (payload : List ℕ) → SaysReset c at v.under cut number content payload → SaysReset c' at' t.member.group.number last number content payload
    says number (Packet.Request sender taken count) payload x = x
    says number (Packet.Broadcast originator k count floor) payload x = x
    says number (Packet.Gap sender taken first end) payload x = x
    says number (Packet.Status sender taken) payload x = x
    says number (Packet.Poll elected top floor) payload x = x
    says number (Packet.Offer originator k count floor) payload x = x
    says number (Packet.Confirm sender k) payload x = x
    says number (Packet.Accept elected k) payload x = x
    says number (Packet.Invitation sender a) payload x =
        record {
          used = x.used;
          group_is = λ _ d. absurd (d refl);
          sender_is = λ _ d. absurd (d refl);
          over = λ q _ z. unmade i b (sym (x.group_is q busy ∙ ap (λ (k : ℕ). (at k).member.group.number) mine) ∙ z);
        }
    says number (Packet.Reply sender a k) payload x = record { used = x.used; answered = λ _ d. absurd (d refl) }
    says number (Packet.Result sender a elected k) payload x =
        record {
          used = x.used;
          made = λ q. absurd (busy (x.made q));
          group_is = λ q. absurd (busy (x.made q));
          unlike = λ q. absurd (busy (x.made q));
          elected_is = λ q. absurd (busy (x.made q));
          cut_is = λ q. absurd (busy (x.made q));
          survivors_are = λ q. absurd (busy (x.made q));
        }

    known_elsewhere : (j : ℕ) (p : List ℕ) → get_elem? v.known j ≡ some p → (x : Header) → read_of p ≡ Ok x → (terminal.of_reset (content_of x) ≡ false) × Foreign c' x.group
    known_elsewhere j p q x z =
        let kn = all_get _ v.known j v.seen.packets_known q in
        let f : Header = fields_of c.number kn.content in
        let same : x ≡ f = reads_back f kn.payload p kn.bytes_are kn.allowed x z in (
          ap (λ (y : Header). terminal.of_reset (content_of y)) same ∙ ap terminal.of_reset (content_fields c.number kn.content) ∙ known_plain _ kn.content kn.payload kn.says,
          subst (Foreign c') (sym (ap (λ (y : Header). y.group) same ∙ fields_group c.number kn.content)) foreign_own,
        )

    covered : (p : List ℕ) → Covered c at v.under cut v.known p → Covered c' at' t.member.group.number last [] p
    covered p (ours j q) = elsewhere (known_elsewhere j p q)
    covered p (elsewhere f) = elsewhere (λ x z. let y = f x z in (y.0, foreign y.1))
    covered p (resets x) =
        resets (record { number = x.number; content = x.content; payload = x.payload; bytes_are = x.bytes_are; allowed = x.allowed; says = says x.number x.content x.payload x.says })

    abbrev result : List ℕ
    result = packet_of fields (bytes_of survivors_size mask)

    result_covered : Covered c' at' t.member.group.number last [] result
    unfolding fields_of bytes_of
    result_covered =
        resets
        (record {
          number = t.member.group.number;
          content = Packet.Result t.member.number r.invited (chosen_of r) (record { 0 = last });
          payload = bytes_of survivors_size mask;
          bytes_are = refl;
          allowed = (
            fields_fit,
            accepted _ (bytes_of survivors_size mask) longest_packet
                (record {
                  enough = omega arith;
                  fields =
                      result_fields t.member.group.number t.member.number (chosen_of r) r.invited (record { 0 = last }) (bytes_of survivors_size mask) refl
                      (subst (λ (k : ℕ). is_in k t.member.number.0 ≡ true) (sym survivors_back) (subst (λ (k : ℕ). is_in mask k ≡ true) (sym h.itself) itself))
                      (subst (λ (k : ℕ). is_in k e ≡ true) (sym survivors_back) chosen_in_lem);
                  short = omega arith;
                }),
          );
          says =
              record {
                used = subst (λ (k : ℕ). Has k c.used) (sym attempt_is) v.attempt_used;
                made = λ _. refl;
                group_is = λ _. refl;
                unlike = λ _. unmade i b;
                elected_is = λ _. refl;
                cut_is = λ _. refl;
                survivors_are = λ _. survivors_back;
              };
        })

    pub make_next : Inv n resilience last c' at' (packets ++ (result ∷ [])) tk sb
    make_next =
        let begins-at : last ≤ (sequencer_of group' last (at' e)).accepted.0 = subst (λ (x : Sequencer). last ≤ x.accepted.0) (sym view_is) (let z = begun_accepted (at e) group' last in omega arith) in
        record {
          cut = last;
          under = t.member.group.number;
          lost = lost_now group sb v.lost;
          known = [];
          seen = seen';
          line_le = begins-at;
          cut_le = begins-at;
          number_used = v.attempt_used;
          attempt_used = v.attempt_used;
          used_fit = v.used_fit;
          sits = λ j l.
              eq_or j i
              (λ q. subst (λ (k : ℕ). Sits n resilience c' t.member.group.number last (Low n resilience c' last at') k (at' k)) (sym q)
              (subst (Sits n resilience c' t.member.group.number last (Low n resilience c' last at') i) (sym here) own_sits))
              (λ q. subst (Sits n resilience c' t.member.group.number last (Low n resilience c' last at') j) (sym (rest j q)) (other_sits j l));
          initiates = λ d. absurd (d refl);
          opened = λ d. absurd (d refl);
          shut = λ _.
              subst (λ (k : ℕ). (at' k).reset.inviting ≡ false) (sym mine)
              (subst (λ (x : Terminal). x.reset.inviting ≡ false) (sym here) (ap (λ (x : Reset). x.inviting) (left_reset t r.invited (chosen_of r) (record { 0 = last }) mask)));
          floors = tt;
          covered = all_append _ packets (result ∷ []) (all_map _ _ covered packets v.covered) (result_covered, tt);
        }
