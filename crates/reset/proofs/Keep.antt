-- An event at one terminal: what the others are, and what was written, stays as the invariant has it, where the event's terminal does its part.
-- Assumes nothing.
use mathlib.Core.Path.{◌≡◌, refl, sym, ap, ◌∙◌, subst}
use mathlib.Core.Logic.{◌≢◌}
use mathlib.Core.Bool.{true, false}
use mathlib.Core.List.{List, ◌++◌}
use Prim.Native.Nat.{ℕ, ◌≤◌, ◌<◌}
use native.Mathlib.Nat.{le_trans}
use native.Mathlib.Omega.{arith}
use lib.ListN.{length, take, length-take}
use lib.Seq.{take-append-le}
use Rattle.group.proofs.Lists.{when_elim, eq_or, All, all_append, all_map, get_append}
use Rattle.group.specs.Members.{is_in}
use Rattle.group.specs.declared.Group as description
use Rattle.message.specs.Order.{Ordered}
use Rattle.member.specs.State.{Member, reach_of}
use Rattle.packet.specs.declared.Packet.{Packet}
use Rattle.sequencer.proofs.Invariant.{SequencerInv}
use Rattle.sequencer.specs.State.{Sequencer}
use Rattle.recovery.specs.State.{Terminal, reply_number}
use Rattle.reset.specs.Course.{Course}
use Rattle.reset.proofs.Invariant.{Busy, Foreign, group_in, Low, Survivor, Sits, Answered, Open, SaysReset, Covered, ours, elsewhere, resets, FloorLow, Inv, with_order, Goes}
use Rattle.reset.proofs.Remembering.{longer_remembers}
use Rattle.reset.proofs.Seen.{Seen}
use Rattle.reset.proofs.View.{has_result, member_of, sequencer_of}

-- what was taken is so in the view
pub taken_same : (group : description.Group) (cut : ℕ) (t : Terminal) → (member_of group cut t).taken.0 ≡ t.member.taken.0
unfolding member_of
taken_same group cut t = when_elim (λ (m : Member). m.taken.0 ≡ t.member.taken.0) (has_result group t) (λ _. refl) (λ _. refl)

-- a sequencer that serves has numbered a first part of the order
pub top_le : (group : description.Group) (s : Sequencer) (order : List Ordered) → SequencerInv group s (take s.top.0 order) → s.top.0 ≤ length order
top_le group s order v = let z = v.top_is in let y : length (take s.top.0 order) ≤ length order = simp length-take (omega arith) in omega arith

-- a survivor under a longer order, with floors that are as low
pub longer_survivor : (n resilience : ℕ) (c : Course) (more order' : List Ordered) (under cut : ℕ) (low low' : ℕ → Type 0) (i : ℕ) (t : Terminal) → order' ≡ c.order ++ more → ((x : ℕ) → low x → low' x)
    → t.member.taken.0 ≤ length c.order → Survivor n resilience c under cut low i t → Survivor n resilience (with_order c order') under cut low' i t
longer_survivor n resilience c more order' under cut low low' i t is up le s =
    record {
      sound = s.sound;
      typed = s.typed;
      invited = s.invited;
      size = s.size;
      resilient = s.resilient;
      itself = s.itself;
      remembers = rw is (longer_remembers t.member.taken.0 t.kept c.order s.remembers more le);
      serving = λ e.
          let v = s.serving e in
          let same : take t.sequencer.top.0 c.order ≡ take t.sequencer.top.0 order' =
          sym (ap (take t.sequencer.top.0) is ∙ take-append-le t.sequencer.top.0 c.order more (top_le t.sequencer.group t.sequencer c.order v)) in
          subst (SequencerInv t.sequencer.group t.sequencer) same v;
      reach_le = s.reach_le;
      floor_low = λ e. up _ (s.floor_low e);
      read_low = up _ s.read_low;
      calm = s.calm;
      under_is = s.under_is;
      foreign = λ e. let f = s.foreign e in record { used = f.used; unlike = f.unlike; unmade = f.unmade };
      waits = s.waits;
      reply_le = s.reply_le;
      awake = s.awake;
      present = s.present;
      wakes = s.wakes;
      cut_is = s.cut_is;
    }

module _ (n resilience line : ℕ) (c : Course) (at : ℕ → Terminal) (packets : List (List ℕ)) (tk : ℕ → List Ordered) (sb : ℕ → List (List ℕ)) (v : Inv n resilience line c at packets tk sb)
    (i : ℕ) (b : i < n) (t' : Terminal) (at' : ℕ → Terminal) (here : at' i ≡ t') (rest : (j : ℕ) → j ≢ i → at' j ≡ at j) (order' more : List Ordered) (is : order' ≡ c.order ++ more) (goes : Goes c i (at i) t') where
  abbrev group : description.Group
  group = group_in n resilience c

  abbrev cut : ℕ
  cut = v.cut

  abbrev under : ℕ
  under = v.under

  abbrev c' : Course
  c' = with_order c order'

  -- what the open attempt counts on
  module _ (busy : Busy c) where
    group_at : (j : ℕ) → (at' j).member.group.number ≡ (at j).member.group.number
    group_at j =
        eq_or j i (λ q. subst (λ (k : ℕ). (at' k).member.group.number ≡ (at k).member.group.number) (sym q) (ap (λ (t : Terminal). t.member.group.number) here ∙ goes.group busy))
        (λ q. ap (λ (t : Terminal). t.member.group.number) (rest j q))

    answers_at : (j : ℕ) → is_in c.survivors j ≡ true → (at j).reset.replied ≡ true → (at j).reset.attempt ≡ c.attempt → ((at' j).reset.replied ≡ true) × ((at' j).reset.attempt ≡ c.attempt) × (reply_number (at' j) ≡ reply_number (at j))
    answers_at j s =
        let P : Terminal → Terminal → Type 0 = λ x y. x.reset.replied ≡ true → x.reset.attempt ≡ c.attempt → (y.reset.replied ≡ true) × (y.reset.attempt ≡ c.attempt) × (reply_number y ≡ reply_number x) in
        eq_or j i (λ q. subst (λ (k : ℕ). P (at k) (at' k)) (sym q) (subst (P (at i)) (sym here) (goes.answers (subst (λ (k : ℕ). is_in c.survivors k ≡ true) q s) busy)))
        (λ q. subst (P (at j)) (sym (rest j q)) (λ r a. (r, a, refl)))

    answered_goes : (j number : ℕ) → Answered c at j number → Answered c' at' j number
    answered_goes j number a =
        let x = answers_at j a.survives a.replied a.attempt_is in
        record {
          survives = a.survives;
          group_is = group_at j ∙ a.group_is ∙ sym (group_at c.initiator);
          replied = x.0;
          attempt_is = x.1;
          number_is = x.2 ∙ a.number_is;
        }

  says_goes : (number : ℕ) (content : Packet) (payload : List ℕ) → SaysReset c at under cut number content payload → SaysReset c' at' under cut number content payload
  says_goes number (Packet.Request sender taken count) payload h = h
  says_goes number (Packet.Broadcast originator k count floor) payload h = h
  says_goes number (Packet.Gap sender taken first last) payload h = h
  says_goes number (Packet.Status sender taken) payload h = h
  says_goes number (Packet.Poll elected top floor) payload h = h
  says_goes number (Packet.Offer originator k count floor) payload h = h
  says_goes number (Packet.Confirm sender k) payload h = h
  says_goes number (Packet.Accept elected k) payload h = h
  says_goes number (Packet.Invitation sender attempt) payload h =
      record { used = h.used; group_is = λ e d. h.group_is e d ∙ sym (group_at d c.initiator); sender_is = h.sender_is; over = h.over }
  says_goes number (Packet.Reply sender attempt k) payload h = record { used = h.used; answered = λ e d. answered_goes d sender.0 k.0 (h.answered e d) }
  says_goes number (Packet.Result sender attempt elected k) payload h =
      record { used = h.used; made = h.made; group_is = h.group_is; unlike = h.unlike; elected_is = h.elected_is; cut_is = h.cut_is; survivors_are = h.survivors_are }

  foreign_goes : {x : ℕ} → Foreign c x → Foreign c' x
  foreign_goes f = record { used = f.used; unlike = f.unlike; unmade = f.unmade }

  covered_goes : (news : List (List ℕ)) (p : List ℕ) → Covered c at under cut v.known p → Covered c' at' under cut (v.known ++ news) p
  covered_goes news p (ours j e) = ours j (get_append v.known news j e)
  covered_goes news p (elsewhere f) = elsewhere (λ h e. let x = f h e in (x.0, foreign_goes x.1))
  covered_goes news p (resets x) =
      resets
      (record { number = x.number; content = x.content; payload = x.payload; bytes_are = x.bytes_are; allowed = x.allowed; says = says_goes x.number x.content x.payload x.says })

  module _ (ups : is_in c.survivors i ≡ true → reach_of (member_of group cut (at i)) ≤ reach_of (member_of group cut t')) where
    -- floors are as low
    pub low_goes : (x : ℕ) → Low n resilience c cut at x → Low n resilience c cut at' x
    low_goes x h j e =
        eq_or j i
        (λ q. subst (λ (k : ℕ). x ≤ reach_of (member_of group cut (at' k))) (sym q)
        (subst (λ (t : Terminal). x ≤ reach_of (member_of group cut t)) (sym here) (let z : is_in c.survivors i ≡ true = subst (λ (k : ℕ). is_in c.survivors k ≡ true) q e in le_trans (h i z) (ups z))))
        (λ q. subst (λ (t : Terminal). x ≤ reach_of (member_of group cut t)) (sym (rest j q)) (h j e))

    taken_le : (j : ℕ) → is_in c.survivors j ≡ true → (at j).member.taken.0 ≤ length c.order
    taken_le j e = subst (λ (k : ℕ). k ≤ length c.order) (taken_same group cut (at j)) (v.seen.terminal j e).content.taken_le

    others_sit : (j : ℕ) → j < n → Sits n resilience c under cut (Low n resilience c cut at) j (at j) → Sits n resilience c' under cut (Low n resilience c cut at') j (at j)
    others_sit j l s =
        record {
          lost = λ e. foreign_goes (s.lost e);
          old = λ e q. foreign_goes (s.old e q);
          only = s.only;
          survivor = λ e. longer_survivor n resilience c more order' under cut (Low n resilience c cut at) (Low n resilience c cut at') j (at j) is low_goes (taken_le j e) (s.survivor e);
        }

    module _ (tk' : ℕ → List Ordered) (sb' : ℕ → List (List ℕ)) (news ps : List (List ℕ))
        (seen' : Seen group line (sequencer_of group cut (at' c.elected)) (λ j. member_of group cut (at' j)) order' tk' sb' v.lost (v.known ++ news))
        (up : (sequencer_of group cut (at c.elected)).accepted.0 ≤ (sequencer_of group cut (at' c.elected)).accepted.0)
        (sits' : Sits n resilience c' under cut (Low n resilience c cut at') i t')
        (opens : c.initiator ≡ i → Busy c → Open c at t'.reset) (shuts : c.initiator ≡ i → c.attempt ≡ c.number → t'.reset.inviting ≡ false)
        (floors' : All (FloorLow (Low n resilience c cut at')) news) (new : All (Covered c' at' under cut (v.known ++ news)) ps) where
      pub keep : Inv n resilience line c' at' (packets ++ ps) tk' sb'
      keep =
          record {
            cut = cut;
            under = under;
            lost = v.lost;
            known = v.known ++ news;
            seen = seen';
            line_le = le_trans v.line_le up;
            cut_le = le_trans v.cut_le up;
            number_used = v.number_used;
            attempt_used = v.attempt_used;
            used_fit = v.used_fit;
            sits = λ j l.
                eq_or j i
                (λ q. subst (λ (k : ℕ). Sits n resilience c' under cut (Low n resilience c cut at') k (at' k)) (sym q) (subst (Sits n resilience c' under cut (Low n resilience c cut at') i) (sym here) sits'))
                (λ q. subst (Sits n resilience c' under cut (Low n resilience c cut at') j) (sym (rest j q)) (others_sit j l (v.sits j l)));
            initiates = v.initiates;
            opened = λ d.
                let o : Open c at (at' c.initiator).reset =
                eq_or c.initiator i (λ q. subst (λ (k : ℕ). Open c at (at' k).reset) (sym q) (subst (λ (t : Terminal). Open c at t.reset) (sym here) (opens q d)))
                (λ q. subst (λ (t : Terminal). Open c at t.reset) (sym (rest c.initiator q)) (v.opened d)) in
                record { inviting = o.inviting; invited_is = o.invited_is; itself = o.itself; answered = λ j e. answered_goes d j _ (o.answered j e) };
            shut = λ d.
                eq_or c.initiator i (λ q. subst (λ (k : ℕ). (at' k).reset.inviting ≡ false) (sym q) (subst (λ (t : Terminal). t.reset.inviting ≡ false) (sym here) (shuts q d)))
                (λ q. subst (λ (t : Terminal). t.reset.inviting ≡ false) (sym (rest c.initiator q)) (v.shut d));
            floors = all_append _ v.known news (all_map _ _ (λ p f h e. low_goes _ (f h e)) v.known v.floors) floors';
            covered = all_append _ packets ps (all_map _ _ (λ p x. covered_goes news p x) packets v.covered) new;
          }
