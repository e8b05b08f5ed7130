-- Who has the result of the group made last keeps it until the next making. Assumes nothing.
use mathlib.Core.Path.{◌≡◌, refl, sym, ap, ◌∙◌, subst}
use mathlib.Core.Bool.{Bool, true, false}
use mathlib.Core.Option.{Option, none, some}
use mathlib.Core.List.{List, []}
use Prim.Native.Nat.{ℕ, ◌<◌}
use native.Mathlib.Omega.{arith}
use borrow.Author.Tests.{ltb-true, eqb-true}
use lib.Count.{ones}
use lib.ListN.{length, get_or, set, get_elem?}
use lib.Seq.{get_or-set_same, get_or-set_other}
use Rattle.group.proofs.Choice.{both_first}
use Rattle.group.proofs.Lists.{when_elim, judged_elim, eq_or, all_get}
use Rattle.group.specs.Choice.{◌and◌, ◌<?◌, ◌≤?◌, ◌=?◌}
use Rattle.group.specs.Limits.{longest_packet}
use Rattle.group.specs.Members.{is_in}
use Rattle.group.specs.declared.Group as description
use Rattle.message.specs.Order.{Ordered}
use Rattle.member.specs.State.{Member}
use Rattle.model.specs.World.{by_member}
use Rattle.packet.proofs.Laws.{content_fields}
use Rattle.packet.specs.Packet.{read_of, fields_of}
use Rattle.packet.specs.declared.Packet.{Packet}
use Rattle.recovery.specs.Calls as terminal
use Rattle.recovery.specs.State.{Terminal}
use Rattle.reset.specs.Course.{Course, is_sent, OfAttempt, Handed}
use Rattle.reset.specs.World.{Event, submit, repeat, take, status, poll, copy, hand_member, hand_sequencer, invite, make, Group, Happened, happen, missing, no_terminal, terminal_at, at_terminal, at_sequencer, hand_to_member, hand_to_sequencer}
use Rattle.reset.proofs.Invariant.{SaysReset, Covered, ours, elsewhere, resets, Inv}
use Rattle.reset.proofs.Replying.{of_reset_lem, reset_reads, reset_is}
use Rattle.reset.proofs.Stepping.{Calm, submit_calm, repeat_calm, status_calm, take_calm, ours_reads, Asked}
use Rattle.reset.proofs.Writing.{receive_stays}

module _ (n resilience line : ℕ) (c : Course) (w : Group) (tk : ℕ → List Ordered) (sb : ℕ → List (List ℕ)) (long : length w.terminals ≡ n) (v : Inv n resilience line c (terminal_at w) w.packets tk sb) where
  abbrev at : ℕ → Terminal
  at = terminal_at w

  abbrev Has : Terminal → Type 0
  Has t = t.member.group.number ≡ c.number

  abbrev Stay : Happened → Type 0
  Stay d = (j : ℕ) → Has (at j) → Has (terminal_at d.group j)

  stays_at : (i : ℕ) (t' : Terminal) (ps : List (List ℕ)) → i < length w.terminals → (Has (at i) → Has t') → (j : ℕ) → Has (at j) → Has (get_or (set w.terminals i t') j no_terminal)
  stays_at i t' ps b h j e =
      eq_or j i (λ q. subst (λ (k : ℕ). Has (at k) → Has (get_or (set w.terminals i t') k no_terminal)) (sym q) (λ e. subst Has (sym (get_or-set_same w.terminals i t' no_terminal b)) (h e)) e)
      (λ q. subst Has (sym (get_or-set_other w.terminals i j t' no_terminal q)) e)

  missing_stay : Stay (missing w)
  missing_stay j e = e

  at_terminal_lem : (i : ℕ) (call : Terminal → terminal.Outcome) → ((b : i < length w.terminals) → Has (at i) → Has (call (at i)).terminal) → Stay (at_terminal w i call)
  at_terminal_lem i call h =
      when_elim Stay (i <? length w.terminals) (λ l. let b = ltb-true i (length w.terminals) l in stays_at i (call (at i)).terminal [] b (h b)) (λ _. missing_stay)

  at_sequencer_lem : (i : ℕ) (call : Terminal → terminal.SequencerOutcome) → ((t : Terminal) → (call t).terminal.member ≡ t.member) → Stay (at_sequencer w i call)
  at_sequencer_lem i call h =
      when_elim Stay (i <? length w.terminals and (at i).sequencing)
      (λ l. stays_at i (call (at i)).terminal [] (ltb-true i (length w.terminals) (both_first (i <? length w.terminals) _ l)) (λ e. ap (λ (m : Member). m.group.number) (h (at i)) ∙ e)) (λ _. missing_stay)

  calm_has : (t t' : Terminal) → Calm t t' → Has t → Has t'
  calm_has t t' x e = ap (λ (g : description.Group). g.number) x.group ∙ e

  -- a packet of a reset leaves the member of who has the result
  reset_has : (t : Terminal) (number : ℕ) (content : Packet) (payload : List ℕ) → SaysReset c at v.under v.cut number content payload → (fields_of number content).a ≡ c.attempt → number ≡ t.member.group.number → Has t
      → Has (terminal.reset_step t content payload).terminal
  unfolding terminal.reset_step terminal.invited_of terminal.refused fields_of
  reset_has t number (Packet.Request sender taken count) payload says a is e = absurd says
  reset_has t number (Packet.Broadcast originator m count floor) payload says a is e = absurd says
  reset_has t number (Packet.Gap sender taken first last) payload says a is e = absurd says
  reset_has t number (Packet.Status sender taken) payload says a is e = absurd says
  reset_has t number (Packet.Poll elected top floor) payload says a is e = absurd says
  reset_has t number (Packet.Offer originator m count floor) payload says a is e = absurd says
  reset_has t number (Packet.Confirm sender m) payload says a is e = absurd says
  reset_has t number (Packet.Accept elected m) payload says a is e = absurd says
  reset_has t number (Packet.Invitation sender attempt) payload says a is e =
      when_elim (λ (x : terminal.Outcome). Has x.terminal) (sender.0 <? t.member.group.n) (λ _. e) (λ _. e)
  reset_has t number (Packet.Reply sender attempt m) payload says a is e =
      let P : terminal.Outcome → Type 0 = λ x. Has x.terminal in
      when_elim P (sender.0 <? t.member.group.n) (λ _. when_elim P (t.reset.inviting and t.reset.invited =? attempt) (λ _. e) (λ _. e)) (λ _. e)
  reset_has t number (Packet.Result sender attempt elected m) payload says a is e = absurd (says.unlike a (is ∙ e))

  receive_has : (i : ℕ) (b : i < n) (p : List ℕ) → Covered c at v.under v.cut v.known p → OfAttempt c i (read_of p) → is_in c.survivors i ≡ true → Has (at i) → Has (terminal.receive_of (at i) p longest_packet).terminal
  unfolding OfAttempt terminal.refused
  receive_has i b p (ours j q) limit inside e =
      ap (λ (g : description.Group). g.number) (receive_stays (at i) p longest_packet (λ h z. (ours_reads n resilience line c w tk sb long v i b 0 p j q h z).1)).group ∙ e
  receive_has i b p (elsewhere f) limit inside e = ap (λ (g : description.Group). g.number) (receive_stays (at i) p longest_packet (λ h z. (f h z).0)).group ∙ e
  receive_has i b p (resets x) limit inside e =
      let t = at i in
      let s = (v.sits i b).survivor inside in
      let reads = reset_reads c at v.under v.cut p x in
      let of = of_reset_lem c at v.under v.cut x.number x.content x.payload x.says in
      let a : (fields_of x.number x.content).a ≡ c.attempt = (subst (OfAttempt c i) reads.0 limit (ap terminal.of_reset (content_fields x.number x.content) ∙ of)).0 in
      subst (λ (y : terminal.Outcome). Has y.terminal) (sym (reset_is t p x.number x.content x.payload s.sound reads of))
      (when_elim (λ (y : terminal.Outcome). Has y.terminal) (x.number =? t.member.group.number) (λ q. reset_has t x.number x.content x.payload x.says a (eqb-true _ _ q) e) (λ _. e))

  -- who has the result survives
  has_inside : (i : ℕ) → i < n → Has (at i) → is_in c.survivors i ≡ true
  has_inside i b e = go (is_in c.survivors i) refl
    where
      go : (x : Bool) → is_in c.survivors i ≡ x → x ≡ true
      go true q = refl
      go false q = absurd (((v.sits i b).lost q).unlike e)

  invite_has : (t : Terminal) (attempt : ℕ) → (terminal.invite_of t attempt longest_packet).terminal.member ≡ t.member
  unfolding terminal.invite_of terminal.refused
  invite_has t attempt = judged_elim (λ (x : terminal.Outcome). x.terminal.member ≡ t.member) (terminal.whole_verdict t longest_packet) (λ _ _. refl) (λ _. refl)

  make_has : (t : Terminal) (demand : ℕ) → (is_sent (by_member (terminal.make_of t demand longest_packet).answer (terminal.make_of t demand longest_packet).bytes) ≡ true → ⊥) → (terminal.make_of t demand longest_packet).terminal.member ≡ t.member
  unfolding terminal.make_of terminal.refused is_sent
  make_has t demand =
      let P : terminal.Outcome → Type 0 = λ x. (is_sent (by_member x.answer x.bytes) ≡ true → ⊥) → x.terminal.member ≡ t.member in
      judged_elim P (terminal.whole_verdict t longest_packet) (λ _ _ _. refl)
      (λ _. when_elim P t.reset.inviting (λ _. when_elim P (demand ≤? ones t.reset.repliers) (λ _ f. absurd (f refl)) (λ _ _. refl)) (λ _ _. refl))

  make_stay : (i demand : ℕ) → (is_sent (at_terminal w i (λ t. terminal.make_of t demand longest_packet)).answer ≡ true → ⊥) → Stay (at_terminal w i (λ t. terminal.make_of t demand longest_packet))
  make_stay i demand =
      when_elim (λ (d : Happened). (is_sent d.answer ≡ true → ⊥) → Stay d) (i <? length w.terminals)
      (λ l f. stays_at i (terminal.make_of (at i) demand longest_packet).terminal [] (ltb-true i (length w.terminals) l) (λ e. ap (λ (m : Member). m.group.number) (make_has (at i) demand f) ∙ e)) (λ _ _. missing_stay)

  pub step_stays : (e : Event) → Asked n resilience line c w tk sb long v e → Stay (happen w e)
  unfolding happen Handed terminal.poll_of terminal.copy_of terminal.order_of
  step_stays (submit i payload) a = at_terminal_lem i (λ t. terminal.submit_of t payload longest_packet) (λ b. calm_has (at i) _ (submit_calm (at i) longest_packet payload))
  step_stays (repeat i) a = at_terminal_lem i (λ t. terminal.repeat_of t longest_packet) (λ b. calm_has (at i) _ (repeat_calm (at i) longest_packet))
  step_stays (take i) a =
      when_elim Stay (i <? length w.terminals) (λ l. stays_at i (terminal.take_of (at i) longest_packet).terminal [] (ltb-true i (length w.terminals) l) (calm_has (at i) _ (take_calm (at i) longest_packet))) (λ _. missing_stay)
  step_stays (status i) a = at_terminal_lem i (λ t. terminal.status_of t longest_packet) (λ b. calm_has (at i) _ (status_calm (at i) longest_packet))
  step_stays (poll i) a = at_sequencer_lem i (λ t. terminal.poll_of t longest_packet) (λ t. refl)
  step_stays (copy i k) a = at_sequencer_lem i (λ t. terminal.copy_of t (record { 0 = k }) longest_packet) (λ t. refl)
  step_stays (hand_member k i) a = handed (get_elem? w.packets k) refl a
    where
      handed : (x : Option (List ℕ)) → get_elem? w.packets k ≡ x → Handed c i x → Stay (hand_to_member w i x)
      handed none e a = missing_stay
      handed (some p) e a =
          at_terminal_lem i (λ t. terminal.receive_of t p longest_packet) (λ b h. let l : i < n = omega arith in receive_has i l p (all_get _ w.packets k v.covered e) a (has_inside i l h) h)
  step_stays (hand_sequencer k i) a = handed (get_elem? w.packets k)
    where
      handed : (x : Option (List ℕ)) → Stay (hand_to_sequencer w i x)
      handed none = missing_stay
      handed (some p) = at_sequencer_lem i (λ t. terminal.order_of t p longest_packet) (λ t. refl)
  step_stays (invite i k) a = at_terminal_lem i (λ t. terminal.invite_of t k longest_packet) (λ b e. ap (λ (m : Member). m.group.number) (invite_has (at i) k) ∙ e)
  step_stays (make i demand) a = make_stay i demand a
