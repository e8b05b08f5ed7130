-- Inviting, in the world: everything stays, under a number that nothing has. Assumes nothing.
use mathlib.Core.Path.{◌≡◌, refl, sym, ap, ◌∙◌, subst}
use mathlib.Core.Logic.{◌≢◌, inl, inr}
use mathlib.Core.Bool.{Bool, true, false}
use mathlib.Core.List.{List, [], ◌∷◌, ◌++◌}
use Prim.Native.Nat.{ℕ, ◌^◌, ◌≤◌, ◌<◌}
use native.Mathlib.Omega.{arith}
use lib.ListN.{length, get_or, set, replicate, length-set, length-replicate}
use lib.Seq.{get_or-set_same}
use Rattle.group.proofs.Lists.{eq_or, all_append, all_map}
use Rattle.group.proofs.Members.{in_only}
use Rattle.group.specs.Limits.{members_most, longest_packet, largest_number}
use Rattle.group.specs.Members.{is_in}
use Rattle.group.specs.declared.Group as description
use Rattle.message.specs.Order.{Ordered}
use Rattle.member.specs.State.{Member, reach_of}
use Rattle.packet.proofs.Permitted.{invitation_fields}
use Rattle.packet.proofs.Verdicts.{accepted}
use Rattle.packet.specs.Packet.{fields_of, packet_of}
use Rattle.packet.specs.declared.Packet.{Packet}
use Rattle.sequencer.specs.State.{Sequencer}
use Rattle.recovery.proofs.Keeping.{sound_of_lem, of_sound, invited_sound}
use Rattle.recovery.proofs.Masks.{only_in}
use Rattle.recovery.specs.Calls as terminal
use Rattle.recovery.specs.Sound.{terminal_sound}
use Rattle.recovery.specs.State.{Reset, Terminal, reply_number}
use Rattle.reset.specs.Course.{Course, Fresh, invited}
use Rattle.reset.proofs.Invariant.{Has, has_fresh, Foreign, group_in, Low, Survivor, Sits, Answered, Open, SaysReset, Covered, ours, elsewhere, resets, Inv}
use Rattle.reset.proofs.Replying.{reset_survivor, freezes_not}
use Rattle.reset.proofs.Seen.{Seen, same_seen}
use Rattle.reset.proofs.View.{member_of, sequencer_of, member_reset, sequencer_reset}

-- what a changed part in a reset has to be
abbrev Fits : Course → Terminal → Reset → Bool → Type 0
Fits c u r f =
    (terminal_sound (terminal.with_reset u r f) ≡ true) × (length r.replies ≡ members_most) × (r.invited ≤ largest_number) × (u.member.group.number ≢ c.number → r.replied ≡ true) × (f ≡ false → u.frozen ≡ false)

module _ (n resilience line : ℕ) (c : Course) (at : ℕ → Terminal) (packets : List (List ℕ)) (tk : ℕ → List Ordered) (sb : ℕ → List (List ℕ)) (v : Inv n resilience line c at packets tk sb)
    (i : ℕ) (b : i < n) (inside : is_in c.survivors i ≡ true) (attempt : ℕ) (new : Fresh attempt c.used) (fits : attempt ≤ largest_number)
    (at' : ℕ → Terminal) (here : at' i ≡ terminal.with_reset (at i) (terminal.invitation (at i) attempt) (terminal.freezes (at i))) (rest : (j : ℕ) → j ≢ i → at' j ≡ at j) where
  abbrev group : description.Group
  group = group_in n resilience c

  abbrev cut : ℕ
  cut = v.cut

  abbrev t : Terminal
  t = at i

  abbrev t' : Terminal
  t' = terminal.with_reset t (terminal.invitation t attempt) (terminal.freezes t)

  abbrev c' : Course
  c' = invited c i attempt

  abbrev h : Survivor n resilience c v.under cut (Low n resilience c cut at) i t
  h = (v.sits i b).survivor inside

  differs : {x : ℕ} → Has x c.used → x ≢ attempt
  differs {x = x} u e = has_fresh x c.used u (subst (λ (k : ℕ). Fresh k c.used) (sym e) new)

  busy : attempt ≢ c.number
  busy e = differs v.number_used (sym e)

  foreign : (x : ℕ) → Foreign c x → Foreign c' x
  foreign x f = record { used = inr f.used; unlike = f.unlike; unmade = differs f.used }

  members_same : (j : ℕ) → member_of group cut (at' j) ≡ member_of group cut (at j)
  members_same j =
      eq_or j i (λ q. subst (λ (k : ℕ). member_of group cut (at' k) ≡ member_of group cut (at k)) (sym q) (ap (member_of group cut) here ∙ member_reset group cut t _ _)) (λ q. ap (member_of group cut) (rest j q))

  view_same : sequencer_of group cut (at' c.elected) ≡ sequencer_of group cut (at c.elected)
  view_same =
      eq_or c.elected i (λ q. subst (λ (k : ℕ). sequencer_of group cut (at' k) ≡ sequencer_of group cut (at k)) (sym q) (ap (sequencer_of group cut) here ∙ sequencer_reset group cut t _ _))
      (λ q. ap (sequencer_of group cut) (rest c.elected q))

  low_up : (x : ℕ) → Low n resilience c cut at x → Low n resilience c cut at' x
  low_up x l j e = subst (λ (m : Member). x ≤ reach_of m) (sym (members_same j)) (l j e)

  survivor_up : (j : ℕ) (u : Terminal) (r : Reset) (f : Bool) → Survivor n resilience c v.under cut (Low n resilience c cut at) j u → Fits c u r f → Survivor n resilience c' v.under cut (Low n resilience c cut at') j (terminal.with_reset u r f)
  survivor_up j u r f s ok =
      reset_survivor n resilience c c' v.under cut (Low n resilience c cut at) (Low n resilience c cut at') low_up j u r f refl refl refl foreign s ok.0 ok.1 ok.2 (λ _ d. absurd (busy d)) ok.3 ok.4

  sits_up : (j : ℕ) (u : Terminal) (r : Reset) (f : Bool) → Sits n resilience c v.under cut (Low n resilience c cut at) j u → (is_in c.survivors j ≡ true → Fits c u r f) → Sits n resilience c' v.under cut (Low n resilience c cut at') j (terminal.with_reset u r f)
  sits_up j u r f s ok =
      record {
        lost = λ e. foreign _ (s.lost e);
        old = λ e q. foreign _ (s.old e q);
        only = s.only;
        survivor = λ e. survivor_up j u r f (s.survivor e) (ok e);
      }

  number_at : reply_number t ≡ get_or (set (replicate members_most 0) t.member.number.0 (reply_number t)) t.member.number.0 0
  number_at =
      let z = h.itself in
      let most = v.seen.standing.n_most in
      sym (get_or-set_same (replicate members_most 0) t.member.number.0 (reply_number t) 0 (simp length-replicate (omega arith)))

  answered : (j : ℕ) → is_in (2 ^ t.member.number.0) j ≡ true → Answered c' at' j (get_or (set (replicate members_most 0) t.member.number.0 (reply_number t)) j 0)
  unfolding reply_number
  answered j e =
      let q : j ≡ t.member.number.0 = in_only t.member.number.0 j e in
      subst (λ (k : ℕ). Answered c' at' k (get_or (set (replicate members_most 0) t.member.number.0 (reply_number t)) k 0)) (sym q)
      (subst (λ (k : ℕ). Answered c' at' k (get_or (set (replicate members_most 0) t.member.number.0 (reply_number t)) t.member.number.0 0)) (sym h.itself)
      (record {
        survives = inside;
        group_is = refl;
        replied = ap (λ (x : Terminal). x.reset.replied) here;
        attempt_is = ap (λ (x : Terminal). x.reset.attempt) here;
        number_is = ap reply_number here ∙ number_at;
      }))

  says : (number : ℕ) (content : Packet) (payload : List ℕ) → SaysReset c at v.under cut number content payload → SaysReset c' at' v.under cut number content payload
  says number (Packet.Request sender taken count) payload x = x
  says number (Packet.Broadcast originator k count floor) payload x = x
  says number (Packet.Gap sender taken first last) payload x = x
  says number (Packet.Status sender taken) payload x = x
  says number (Packet.Poll elected top floor) payload x = x
  says number (Packet.Offer originator k count floor) payload x = x
  says number (Packet.Confirm sender k) payload x = x
  says number (Packet.Accept elected k) payload x = x
  says number (Packet.Invitation sender a) payload x =
      record { used = inr x.used; group_is = λ e. absurd (differs x.used e); sender_is = λ e. absurd (differs x.used e); over = λ e. absurd (differs x.used e) }
  says number (Packet.Reply sender a k) payload x = record { used = inr x.used; answered = λ e. absurd (differs x.used e) }
  says number (Packet.Result sender a elected k) payload x =
      record {
        used = inr x.used;
        made = λ e. absurd (differs x.used e);
        group_is = λ e. absurd (differs x.used e);
        unlike = λ e. absurd (differs x.used e);
        elected_is = λ e. absurd (differs x.used e);
        cut_is = λ e. absurd (differs x.used e);
        survivors_are = λ e. absurd (differs x.used e);
      }

  covered : (p : List ℕ) → Covered c at v.under cut v.known p → Covered c' at' v.under cut v.known p
  covered p (ours j e) = ours j e
  covered p (elsewhere f) = elsewhere (λ x e. let y = f x e in (y.0, foreign _ y.1))
  covered p (resets x) =
      resets (record { number = x.number; content = x.content; payload = x.payload; bytes_are = x.bytes_are; allowed = x.allowed; says = says x.number x.content x.payload x.says })

  abbrev invitation : List ℕ
  invitation = packet_of (fields_of t.member.group.number (Packet.Invitation t.member.number attempt)) []

  own_byte : t.member.number.0 < 256
  own_byte = let z = h.itself in let y = v.seen.standing.n_most in omega arith

  invitation_covered : Covered c' at' v.under cut v.known invitation
  unfolding fields_of
  invitation_covered =
      resets
      (record {
        number = t.member.group.number;
        content = Packet.Invitation t.member.number attempt;
        payload = [];
        bytes_are = refl;
        allowed = (
          record { kind = omega arith; member = own_byte; group = h.typed.member.group; a = fits; b = omega arith; c = omega arith },
          accepted _ [] longest_packet (record { enough = omega arith; fields = invitation_fields t.member.group.number t.member.number attempt; short = omega arith }),
        );
        says =
            record {
              used = inl refl;
              group_is = λ _ _. sym (ap (λ (x : Terminal). x.member.group.number) here);
              sender_is = λ _ _. h.itself;
              over = λ _ d. absurd (busy d);
            };
      })

  pub invite_next : Inv n resilience line c' at' (packets ++ (invitation ∷ [])) tk sb
  invite_next =
      let sound = sound_of_lem t h.sound in
      record {
        cut = cut;
        under = v.under;
        lost = v.lost;
        known = v.known;
        seen =
            subst (λ (x : Sequencer). Seen group line x (λ j. member_of group cut (at' j)) c.order tk sb v.lost v.known) (sym view_same)
            (same_seen group line _ (λ j. member_of group cut (at j)) (λ j. member_of group cut (at' j)) c.order tk tk sb sb v.lost v.known (λ j _. members_same j) (λ j _. refl) (λ j _. refl) v.seen);
        line_le = subst (λ (x : Sequencer). line ≤ x.accepted.0) (sym view_same) v.line_le;
        cut_le = subst (λ (x : Sequencer). cut ≤ x.accepted.0) (sym view_same) v.cut_le;
        number_used = inr v.number_used;
        attempt_used = inl refl;
        used_fit = (fits, v.used_fit);
        sits = λ j l.
            eq_or j i
            (λ q. subst (λ (k : ℕ). Sits n resilience c' v.under cut (Low n resilience c cut at') k (at' k)) (sym q)
            (subst (Sits n resilience c' v.under cut (Low n resilience c cut at') i) (sym here)
            (sits_up i t (terminal.invitation t attempt) (terminal.freezes t) (v.sits i b)
            (λ _. (
              of_sound _ (invited_sound t sound attempt),
              length-set (replicate members_most 0) t.member.number.0 (reply_number t) ∙ length-replicate {A = ℕ} members_most 0,
              fits,
              λ _. refl,
              freezes_not t,
            )))))
            (λ q. subst (Sits n resilience c' v.under cut (Low n resilience c cut at') j) (sym (rest j q))
            (sits_up j (at j) (at j).reset (at j).frozen (v.sits j l) (λ e. let s = (v.sits j l).survivor e in (s.sound, s.typed.replies, s.invited, s.waits, λ z. z))));
        initiates = λ _. inside;
        opened = λ _.
            subst (λ (x : Terminal). Open c' at' x.reset) (sym here)
            (record { inviting = refl; invited_is = refl; itself = subst (λ (k : ℕ). is_in (2 ^ t.member.number.0) k ≡ true) h.itself (only_in t.member.number.0); answered = answered });
        shut = λ d. absurd (busy d);
        floors = all_map _ _ (λ p f x e. low_up _ (f x e)) v.known v.floors;
        covered = all_append _ packets (invitation ∷ []) (all_map _ _ covered packets v.covered) (invitation_covered, tt);
      }
