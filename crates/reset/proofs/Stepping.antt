-- Every allowed event keeps the world's invariant; a making sets where the made group began. Assumes nothing.
use Rattle.group.specs.Question.{all_yes}
use Rattle.std.specs.Prelude.{Ok}
use mathlib.Core.Path.{◌≡◌, refl, sym, ap, ◌∙◌, subst}
use mathlib.Core.Logic.{◌≢◌}
use mathlib.Core.Bool.{Bool, true, false, false≢true}
use mathlib.Core.Option.{Option, none, some}
use mathlib.Core.List.{List, [], ◌++◌, append-nil}
use Prim.Native.Nat.{ℕ, ◌+◌, ◌≤◌, ◌<◌}
use native.Mathlib.Omega.{arith}
use borrow.Author.Tests.{ltb-true, eqb-true, eq-eqb, ne_eqb}
use lib.Count.{ones}
use lib.ListN.{length, get_or, set, get_elem?, length-set}
use lib.ListN as list
use lib.Seq.{get_or-set_same, get_or-set_other}
use Rattle.big_endian.specs.Number.{bytes_of}
use Rattle.group.proofs.Choice.{when_true, when_false, both_first, both_then}
use Rattle.group.proofs.Lists.{when_elim, judged_elim, eq_or, All, all_map, all_get}
use Rattle.group.specs.Choice.{when◌then◌else◌, ◌and◌, ◌<?◌, ◌≤?◌, ◌=?◌}
use Rattle.group.specs.Limits.{longest_packet, largest_number}
use Rattle.group.specs.Members.{is_in, is_within, all_of}
use Rattle.group.specs.Question.{judged}
use Rattle.group.specs.declared.Group as description
use Rattle.group.specs.declared.MemberNumber.{MemberNumber}
use Rattle.group.specs.declared.Refusal.{Refusal}
use Rattle.group.specs.declared.SequenceNumber.{SequenceNumber}
use Rattle.group.specs.Question.{Verdict}
use Rattle.message.specs.Order.{Ordered}
use Rattle.member.specs.Calls as member
use Rattle.member.specs.Order.{took_by, accepted_by}
use Rattle.member.specs.State.{Member}
use Rattle.member.specs.declared.Answer as memberAnswer
use Rattle.model.proofs.Round.{written_one, packet_long}
use Rattle.model.specs.Log.{numbered_in, took_in, accepted_in}
use Rattle.model.specs.World.{absent, by_sequencer, by_member}
use Rattle.packet.proofs.Laws.{content_fields, fields_group}
use Rattle.packet.proofs.RoundTrip.{header_back, payload_back}
use Rattle.packet.specs.Packet.{header_of, read_of, payload_at, content_of, fields_of, packet_of, survivors_in, survivors_size, written}
use Rattle.packet.specs.declared.Header.{Header}
use Rattle.packet.specs.declared.Packet.{Packet}
use Rattle.packet.specs.Answers.{Reading}
use Rattle.sequencer.specs.Calls as sequencer
use Rattle.sequencer.specs.Order.{numbered_by}
use Rattle.sequencer.specs.State.{Sequencer}
use Rattle.recovery.proofs.Holding.{poll_leaves, copy_leaves}
use Rattle.recovery.proofs.Laws as terminalProofs
use Rattle.recovery.proofs.Ordering.{ordered_group}
use Rattle.recovery.specs.Begin.{cut_of, chosen_of, result_of}
use Rattle.recovery.specs.Calls as terminal
use Rattle.recovery.specs.Sound.{terminal_sound}
use Rattle.recovery.specs.State.{Reset, Terminal, reply_number}
use Rattle.reset.specs.Course.{Course, invited, made, is_sent, bytes_in, course_of, took_at, submitted_at, Fresh, OfAttempt, Handed}
use Rattle.reset.specs.World.{Event, submit, repeat, take, status, poll, copy, hand_member, hand_sequencer, invite, make, Group, Happened, happen, missing, with_member, with_sequencer, no_terminal, terminal_at, at_terminal, at_sequencer, hand_to_member, hand_to_sequencer}
use Rattle.reset.proofs.Away.{inv_same, more_packets, away_next}
use Rattle.reset.proofs.Before.{when_either}
use Rattle.reset.proofs.Called.{wrote_covered, submit_next, repeat_next, status_next, take_next, receive_next}
use Rattle.reset.proofs.Closed.{Shut, shut_receives, shut_orders, reset_orders}
use Rattle.reset.proofs.Following.{result_next}
use Rattle.reset.proofs.Invariant.{has_all, Foreign, Low, Survivor, Elsewhere, GoodReply, GoodResult, SaysReset, Resets, Covered, ours, elsewhere, resets, Inv, with_order}
use Rattle.reset.proofs.Inviting.{invite_next}
use Rattle.reset.proofs.Making.{made_from, attempt_is, itself, stands_at, survivors_back, fields_fit, make_next}
use Rattle.reset.proofs.Numbering.{poll_next, copy_next, order_is, order_next}
use Rattle.reset.proofs.Replying.{of_reset_lem, reset_reads, reset_is, invited_next, counted_next}
use Rattle.reset.proofs.Same.{known_plain}
use Rattle.reset.proofs.Writing.{reads_back, Wrote, wrote_reads, SequencerWrote, poll_sends_own, copy_sends_own, order_sends, submit_writes, repeat_writes, status_writes, receive_stays}

-- a call that leaves the group, the part in a reset, and the sequencer
pub record Calm (t t' : Terminal) : Type 0 where
  pub group : t'.member.group ≡ t.member.group
  pub reset : t'.reset ≡ t.reset
  pub sequencing : t'.sequencing ≡ t.sequencing
  pub sequencer : t'.sequencer ≡ t.sequencer

module _ (t : Terminal) (room : ℕ) where
  abbrev Left : terminal.Outcome → Type 0
  Left x = Calm t x.terminal

  refused_calm : (refusal : Refusal) → Left (terminal.refused t refusal)
  unfolding terminal.refused
  refused_calm refusal = record { group = refl; reset = refl; sequencing = refl; sequencer = refl }

  pub submit_calm : (payload : List ℕ) → Left (terminal.submit_of t payload room)
  unfolding terminal.submit_of
  submit_calm payload =
      judged_elim Left (terminal.call_verdict t room) (λ r _. refused_calm r)
      (λ _. record { group = (terminalProofs.submit_still t.member payload room).group; reset = refl; sequencing = refl; sequencer = refl })

  pub repeat_calm : Left (terminal.repeat_of t room)
  unfolding terminal.repeat_of
  repeat_calm =
      judged_elim Left (terminal.call_verdict t room) (λ r _. refused_calm r) (λ _. record { group = (terminalProofs.repeat_still t.member room).group; reset = refl; sequencing = refl; sequencer = refl })

  pub status_calm : Left (terminal.status_of t room)
  unfolding terminal.status_of
  status_calm =
      judged_elim Left (terminal.call_verdict t room) (λ r _. refused_calm r) (λ _. record { group = (terminalProofs.status_still t.member room).group; reset = refl; sequencing = refl; sequencer = refl })

  pub take_calm : Left (terminal.take_of t room)
  unfolding terminal.take_of member.take_of member.answered member.took_of member.with_taken
  take_calm =
      let P : member.Outcome → Type 0 = λ o. o.member.group ≡ t.member.group in
      judged_elim Left (terminal.call_verdict t room) (λ r _. refused_calm r)
      (λ _.
      record {
        group = judged_elim P (member.call_verdict t.member room) (λ _ _. refl) (λ _. when_elim P (member.is_ready t.member (t.member.taken.0 + 1)) (λ _. refl) (λ _. refl));
        reset = refl;
        sequencing = refl;
        sequencer = refl;
      })

no_and : (a b : Bool) → b ≡ false → (a and b) ≡ false
unfolding when◌then◌else◌
no_and true b e = e
no_and false b e = refl

first_no_lem : (a b : Bool) → a ≡ false → (a and b) ≡ false
unfolding when◌then◌else◌
first_no_lem true b e = absurd (false≢true (sym e))
first_no_lem false b e = refl

module _ (n resilience line : ℕ) (c : Course) (w : Group) (tk : ℕ → List Ordered) (sb : ℕ → List (List ℕ)) (long : length w.terminals ≡ n) (v : Inv n resilience line c (terminal_at w) w.packets tk sb) where
  abbrev at : ℕ → Terminal
  at = terminal_at w

  -- what an event leaves
  pub record Next (e : Event) (d : Happened) : Type 0 where
    pub size : length d.group.terminals ≡ n
    pub holds : Inv n resilience line (course_of c e d.answer) (terminal_at d.group) d.group.packets (λ j. tk j ++ took_at j e d.answer) (λ j. sb j ++ submitted_at j e d.answer)

  -- one that nothing is taken or submitted in
  plain_next : (e : Event) (d : Happened) (c' : Course) → course_of c e d.answer ≡ c' → ((j : ℕ) → took_at j e d.answer ≡ []) → ((j : ℕ) → submitted_at j e d.answer ≡ []) → length d.group.terminals ≡ n
      → Inv n resilience line c' (terminal_at d.group) d.group.packets tk sb → Next e d
  plain_next e d c' course took sent l h =
      record {
        size = l;
        holds =
            subst (λ (x : Course). Inv n resilience line x (terminal_at d.group) d.group.packets (λ j. tk j ++ took_at j e d.answer) (λ j. sb j ++ submitted_at j e d.answer)) (sym course)
            (inv_same n resilience line c' (terminal_at d.group) (terminal_at d.group) d.group.packets tk _ sb _ (λ j. refl) (λ j. ap (λ (l : List Ordered). tk j ++ l) (took j) ∙ append-nil (tk j))
            (λ j. ap (λ (l : List (List ℕ)). sb j ++ l) (sent j) ∙ append-nil (sb j)) h);
      }

  used_fits : {x : ℕ} → Foreign c x → x ≤ largest_number
  used_fits {x = x} f = has_all (λ k. k ≤ largest_number) x c.used v.used_fit f.used

  module _ (i : ℕ) (b : i < n) where
    abbrev t : Terminal
    t = at i

    abbrev after : Terminal → ℕ → Terminal
    after t' j = get_or (set w.terminals i t') j no_terminal

    here : (t' : Terminal) → after t' i ≡ t'
    here t' = get_or-set_same w.terminals i t' no_terminal (omega arith)

    rest : (t' : Terminal) (j : ℕ) → j ≢ i → after t' j ≡ at j
    rest t' j q = get_or-set_other w.terminals i j t' no_terminal q

    sized : (t' : Terminal) → length (set w.terminals i t') ≡ n
    sized t' = length-set w.terminals i t' ∙ long

    same_at : (t' : Terminal) → t' ≡ t → (j : ℕ) → after t' j ≡ at j
    same_at t' e j = eq_or j i (λ q. subst (λ (k : ℕ). after t' k ≡ at k) (sym q) (here t' ∙ e)) (λ q. rest t' j q)

    -- a terminal that was left as it was
    still : (t' : Terminal) (ps : List (List ℕ)) → t' ≡ t → All (Covered c at v.under v.cut v.known) ps → Inv n resilience line c (after t') (w.packets ++ ps) tk sb
    still t' ps e new = inv_same n resilience line c at (after t') (w.packets ++ ps) tk tk sb sb (same_at t' e) (λ j. refl) (λ j. refl) (more_packets n resilience line c at w.packets tk sb v ps new)

    -- packets of another number
    elsewheres : (ps : List (List ℕ)) (number : ℕ) → Foreign c number → All (Wrote number) ps → All (Elsewhere c) ps
    elsewheres ps number f h = all_map _ _ (λ p x y e. let r = wrote_reads number p (used_fits f) x y e in (r.1, subst (Foreign c) (sym r.0) f)) ps h

    -- a call of a terminal that was left out
    away : is_in c.survivors i ≡ false → (t' : Terminal) → Calm t t' → (ps : List (List ℕ)) → All (Wrote t.member.group.number) ps → (tk' : ℕ → List Ordered) (sb' : ℕ → List (List ℕ))
        → ((j : ℕ) → j ≢ i → tk' j ≡ tk j) → ((j : ℕ) → j ≢ i → sb' j ≡ sb j) → Inv n resilience line c (after t') (w.packets ++ ps) tk' sb'
    away out t' calm ps wrote tk' sb' et es =
        away_next n resilience line c at w.packets tk sb v i b out t' (after t') (here t') (rest t') (ap (λ (g : description.Group). g.number) calm.group) calm.reset calm.sequencing
        (ap (λ (s : Sequencer). s.group.number) calm.sequencer) tk' sb' et es ps (elsewheres ps t.member.group.number ((v.sits i b).lost out) wrote)

    survive_or : {B : Type 0} → (is_in c.survivors i ≡ true → B) → (is_in c.survivors i ≡ false → B) → B
    survive_or {B = B} f g = go (is_in c.survivors i) refl
      where
        go : (x : Bool) → is_in c.survivors i ≡ x → B
        go true e = f e
        go false e = g e

    submit_step : (payload : List ℕ) → Next (submit i payload) (with_member w i (terminal.submit_of t payload longest_packet) (written (terminal.submit_of t payload longest_packet).bytes))
    unfolding course_of took_at submitted_at accepted_in
    submit_step payload =
        let x = terminal.submit_of t payload longest_packet in
        let tk' : ℕ → List Ordered = λ j. tk j ++ [] in
        let sb' : ℕ → List (List ℕ) = λ j. sb j ++ (when i =? j then accepted_by x.answer payload else []) in
        let et : (j : ℕ) → tk' j ≡ tk j = λ j. append-nil (tk j) in
        let es : (j : ℕ) → j ≢ i → sb' j ≡ sb j = λ j q. ap (λ (l : List (List ℕ)). sb j ++ l) (sym (when_false (i =? j) _ _ _ (ne_eqb i j (λ z. q (sym z))) refl)) ∙ append-nil (sb j) in
        let own : sb' i ≡ sb i ++ accepted_by x.answer payload = ap (λ (l : List (List ℕ)). sb i ++ l) (sym (when_true (i =? i) _ _ _ (eq-eqb i i refl) refl)) in
        record {
          size = sized x.terminal;
          holds =
              survive_or
              (λ inside. submit_next n resilience line c at w.packets tk sb v i b inside (after x.terminal) (rest x.terminal) tk' sb' (λ j _. et j) es payload (here x.terminal) (et i) own)
              (λ out. away out x.terminal (submit_calm t longest_packet payload) (written x.bytes) (submit_writes t payload longest_packet) tk' sb' (λ j _. et j) es);
        }

    -- a call that submits and takes nothing
    idle_step : (e : Event) (x : terminal.Outcome) (ps : List (List ℕ)) → course_of c e (by_member x.answer x.bytes) ≡ c → ((j : ℕ) → took_at j e (by_member x.answer x.bytes) ≡ [])
        → ((j : ℕ) → submitted_at j e (by_member x.answer x.bytes) ≡ []) → Inv n resilience line c (after x.terminal) (w.packets ++ ps) tk sb → Next e (with_member w i x ps)
    idle_step e x ps course took sent h = plain_next e (with_member w i x ps) c course took sent (sized x.terminal) h

    repeat_step : Next (repeat i) (with_member w i (terminal.repeat_of t longest_packet) (written (terminal.repeat_of t longest_packet).bytes))
    unfolding course_of took_at submitted_at
    repeat_step =
        let x = terminal.repeat_of t longest_packet in
        idle_step (repeat i) x (written x.bytes) refl (λ j. refl) (λ j. refl)
        (survive_or
        (λ inside. repeat_next n resilience line c at w.packets tk sb v i b inside (after x.terminal) (rest x.terminal) tk sb (λ j _. refl) (λ j _. refl) (here x.terminal) refl refl)
        (λ out. away out x.terminal (repeat_calm t longest_packet) (written x.bytes) (repeat_writes t longest_packet) tk sb (λ j _. refl) (λ j _. refl)))

    status_step : Next (status i) (with_member w i (terminal.status_of t longest_packet) (written (terminal.status_of t longest_packet).bytes))
    unfolding course_of took_at submitted_at
    status_step =
        let x = terminal.status_of t longest_packet in
        idle_step (status i) x (written x.bytes) refl (λ j. refl) (λ j. refl)
        (survive_or
        (λ inside. status_next n resilience line c at w.packets tk sb v i b inside (after x.terminal) (rest x.terminal) tk sb (λ j _. refl) (λ j _. refl) (here x.terminal) refl refl)
        (λ out. away out x.terminal (status_calm t longest_packet) (written x.bytes) (status_writes t longest_packet) tk sb (λ j _. refl) (λ j _. refl)))

    take_step : Next (take i) (with_member w i (terminal.take_of t longest_packet) [])
    unfolding course_of took_at submitted_at took_in
    take_step =
        let x = terminal.take_of t longest_packet in
        let tk' : ℕ → List Ordered = λ j. tk j ++ (when i =? j then took_by x.answer x.bytes else []) in
        let sb' : ℕ → List (List ℕ) = λ j. sb j ++ [] in
        let es : (j : ℕ) → sb' j ≡ sb j = λ j. append-nil (sb j) in
        let et : (j : ℕ) → j ≢ i → tk' j ≡ tk j = λ j q. ap (λ (l : List Ordered). tk j ++ l) (sym (when_false (i =? j) _ _ _ (ne_eqb i j (λ z. q (sym z))) refl)) ∙ append-nil (tk j) in
        let own : tk' i ≡ tk i ++ took_by x.answer x.bytes = ap (λ (l : List Ordered). tk i ++ l) (sym (when_true (i =? i) _ _ _ (eq-eqb i i refl) refl)) in
        record {
          size = sized x.terminal;
          holds =
              survive_or
              (λ inside. take_next n resilience line c at w.packets tk sb v i b inside (after x.terminal) (rest x.terminal) tk' sb' et (λ j _. es j) (here x.terminal) own (es i))
              (λ out. away out x.terminal (take_calm t longest_packet) [] tt tk' sb' et (λ j _. es j));
        }

    -- a packet handed to the member
    module _ (k : ℕ) (p : List ℕ) where
      abbrev received : terminal.Outcome
      received = terminal.receive_of t p longest_packet

      abbrev Hands : terminal.Outcome → Type 0
      Hands x = Inv n resilience line c (after x.terminal) (w.packets ++ written x.bytes) tk sb

      silent : (x : terminal.Outcome) → x.terminal ≡ t → x.bytes ≡ [] → Hands x
      unfolding written
      silent x e q = subst (λ (l : List ℕ). Inv n resilience line c (after x.terminal) (w.packets ++ written l) tk sb) (sym q) (still x.terminal [] e tt)

      no : (refusal : Refusal) → Hands (terminal.refused t refusal)
      unfolding terminal.refused
      no refusal = silent (terminal.refused t refusal) refl refl

      shut : Shut t p → Hands received
      shut s = let x = shut_receives t p longest_packet s in silent received x.0 x.1

      -- to one that was left out
      module _ (out : is_in c.survivors i ≡ false) where
        hand_away : ((h : Header) → read_of p ≡ Ok h → terminal.of_reset (content_of h) ≡ false) → Hands received
        hand_away plain =
            let s = receive_stays t p longest_packet plain in
            away out received.terminal (record { group = s.group; reset = s.reset; sequencing = s.sequencing; sequencer = s.sequencer }) (written received.bytes) s.wrote tk sb (λ j _. refl) (λ j _. refl)

      -- a packet of the group reads as such
      pub ours_reads : (j : ℕ) → get_elem? v.known j ≡ some p → (h : Header) → read_of p ≡ Ok h → (h.group ≡ c.number) × (terminal.of_reset (content_of h) ≡ false)
      ours_reads j q h e =
          let kn = all_get _ v.known j v.seen.packets_known q in
          let f : Header = fields_of c.number kn.content in
          let same : h ≡ f = reads_back f kn.payload p kn.bytes_are kn.allowed h e in (
            ap (λ (y : Header). y.group) same ∙ fields_group c.number kn.content,
            ap (λ (y : Header). terminal.of_reset (content_of y)) same ∙ ap terminal.of_reset (content_fields c.number kn.content) ∙ known_plain _ kn.content kn.payload kn.says,
          )

      -- to a survivor
      module _ (inside : is_in c.survivors i ≡ true) where
        abbrev s : Survivor n resilience c v.under v.cut (Low n resilience c v.cut at) i t
        s = (v.sits i b).survivor inside

        hand_ours : (j : ℕ) → get_elem? v.known j ≡ some p → Hands received
        hand_ours j q =
            eq_or t.member.group.number c.number
            (λ e. receive_next n resilience line c at w.packets tk sb v i b inside (after received.terminal) (rest received.terminal) tk sb (λ j _. refl) (λ j _. refl) e p j q refl refl (here received.terminal))
            (λ e. shut (λ h z. let x = ours_reads j q h z in (x.1, first_no_lem (h.group =? t.member.group.number) _ (ne_eqb h.group t.member.group.number (λ y. e (sym y ∙ x.0))))))

        hand_elsewhere : Elsewhere c p → Hands received
        hand_elsewhere f =
            shut
            (λ h z.
            let x = f h z in (
              x.0,
              eq_or t.member.group.number c.number (λ e. first_no_lem (h.group =? t.member.group.number) _ (ne_eqb h.group t.member.group.number (λ y. x.1.unlike (y ∙ e))))
                  (λ e. no_and (h.group =? t.member.group.number) _ (closed t.reset.replied (s.waits e))),
            ))
          where
            closed : (r : Bool) → r ≡ true → (when r then false else true) ≡ false
            closed r e = sym (when_true r false false true e refl)

        counted : (sender : MemberNumber) (attempt number : ℕ) → GoodReply c at sender.0 attempt number → attempt ≡ c.attempt → sender.0 < t.member.group.n → t.reset.inviting ≡ true
            → Hands (terminal.noted (terminal.with_reset t (terminal.with_reply t.reset sender number) t.frozen) [])
        unfolding written
        counted sender attempt number good a less inviting =
            let t' : Terminal = terminal.with_reset t (terminal.with_reply t.reset sender number) t.frozen in
            counted_next n resilience line c at w.packets tk sb v i b inside (after t') (rest t') sender attempt number good a less inviting (here t')

        followed : (number attempt : ℕ) (elected : MemberNumber) (last : SequenceNumber) (survivors : ℕ) → GoodResult c v.under v.cut number attempt elected.0 last.0 survivors → attempt ≡ c.attempt
            → number ≡ t.member.group.number → terminal_sound (result_of t attempt elected last survivors) ≡ true → Hands (terminal.noted (result_of t attempt elected last survivors) [])
        unfolding written
        followed number attempt elected last survivors good a is sound =
            let t' : Terminal = result_of t attempt elected last survivors in
            result_next n resilience line c at w.packets tk sb v i b inside number attempt elected last survivors good a is (after t') (here t') (rest t') sound

        -- a packet of a reset
        reset_step_lem : (number : ℕ) (content : Packet) (payload : List ℕ) → SaysReset c at v.under v.cut number content payload → (fields_of number content).a ≡ c.attempt → (fields_of number content).a ≤ largest_number
            → number ≤ largest_number → number ≡ t.member.group.number → terminal_sound (terminal.reset_step t content payload).terminal ≡ true → Hands (terminal.reset_step t content payload)
        unfolding terminal.reset_step terminal.invited_of fields_of
        reset_step_lem number (Packet.Request sender taken count) payload says a fits nf is sound = absurd says
        reset_step_lem number (Packet.Broadcast originator m count floor) payload says a fits nf is sound = absurd says
        reset_step_lem number (Packet.Gap sender taken first last) payload says a fits nf is sound = absurd says
        reset_step_lem number (Packet.Status sender taken) payload says a fits nf is sound = absurd says
        reset_step_lem number (Packet.Poll elected top floor) payload says a fits nf is sound = absurd says
        reset_step_lem number (Packet.Offer originator m count floor) payload says a fits nf is sound = absurd says
        reset_step_lem number (Packet.Confirm sender m) payload says a fits nf is sound = absurd says
        reset_step_lem number (Packet.Accept elected m) payload says a fits nf is sound = absurd says
        reset_step_lem number (Packet.Invitation sender attempt) payload says a fits nf is sound =
            when_elim Hands (sender.0 <? t.member.group.n)
            (λ _.
            let r : Reset = when sender.0 =? t.member.number.0 then terminal.replied t attempt else terminal.uninvited (terminal.replied t attempt) in
            let t' : Terminal = terminal.with_reset t r (terminal.freezes t) in
            let bytes : List ℕ = packet_of (fields_of t.member.group.number (Packet.Reply t.member.number attempt (record { 0 = reply_number t }))) [] in
            subst (λ (l : List (List ℕ)). Inv n resilience line c (after t') (w.packets ++ l) tk sb) (sym (written_one bytes (packet_long (Packet.Reply t.member.number attempt (record { 0 = reply_number t })) t.member.group.number [])))
            (invited_next n resilience line c at w.packets tk sb v i b inside (after t') (rest t') number sender.0 attempt says a is fits nf (here t')))
            (λ _. no Refusal.UnknownMember)
        reset_step_lem number (Packet.Reply sender attempt m) payload says a fits nf is sound =
            when_elim Hands (sender.0 <? t.member.group.n)
            (λ l. when_elim Hands (t.reset.inviting and t.reset.invited =? attempt)
            (λ q. counted sender attempt m.0 says a (ltb-true sender.0 t.member.group.n l) (both_first t.reset.inviting _ q)) (λ _. no Refusal.NotOfAttempt))
            (λ _. no Refusal.UnknownMember)
        reset_step_lem number (Packet.Result sender attempt elected m) payload says a fits nf is sound =
            when_elim (λ (x : terminal.Outcome). terminal_sound x.terminal ≡ true → Hands x) (sender.0 <? t.member.group.n and is_within (survivors_in payload) (all_of t.member.group.n))
            (λ _. when_elim (λ (x : terminal.Outcome). terminal_sound x.terminal ≡ true → Hands x) (terminal.result_fits t attempt elected m (survivors_in payload))
            (λ _ sound. followed number attempt elected m (survivors_in payload) says a is sound) (λ _ _. no Refusal.NotOfAttempt))
            (λ _ _. no Refusal.UnknownMember) sound

        hand_resets : (x : Resets c at v.under v.cut p) → OfAttempt c i (read_of p) → Hands received
        unfolding OfAttempt
        hand_resets x limit =
            let f : Header = fields_of x.number x.content in
            let reads = reset_reads c at v.under v.cut p x in
            let of = of_reset_lem c at v.under v.cut x.number x.content x.payload x.says in
            let a : f.a ≡ c.attempt =
            (subst (OfAttempt c i) reads.0 limit (ap terminal.of_reset (content_fields x.number x.content) ∙ of)).0 in
            let is = reset_is t p x.number x.content x.payload s.sound reads of in
            let head : header_of p ≡ f = ap header_of x.bytes_are ∙ header_back f x.payload x.allowed.0 in
            let sound : terminal_sound received.terminal ≡ true = terminalProofs.receive_keeps t p longest_packet (subst (λ (y : Header). y.a ≤ largest_number) (sym head) x.allowed.0.a) s.typed s.sound in
            let fits : x.number ≤ largest_number = subst (λ (y : ℕ). y ≤ largest_number) (fields_group x.number x.content) x.allowed.0.group in
            let P : terminal.Outcome → Type 0 = λ y. terminal_sound y.terminal ≡ true → Hands y in
            let done : P received =
            subst P (sym is)
            (when_elim P (x.number =? t.member.group.number) (λ q sound. reset_step_lem x.number x.content x.payload x.says a x.allowed.0.a fits (eqb-true _ _ q) sound) (λ _ _. no Refusal.OtherGroup)) in
            done sound

      reset_inside : (x : Resets c at v.under v.cut p) → OfAttempt c i (read_of p) → is_in c.survivors i ≡ true
      unfolding OfAttempt
      reset_inside x limit =
          let reads = reset_reads c at v.under v.cut p x in
          let of = of_reset_lem c at v.under v.cut x.number x.content x.payload x.says in
          (subst (OfAttempt c i) reads.0 limit (ap terminal.of_reset (content_fields x.number x.content) ∙ of)).1

      hands : Covered c at v.under v.cut v.known p → OfAttempt c i (read_of p) → Hands received
      hands (ours j q) limit = survive_or (λ inside. hand_ours inside j q) (λ out. hand_away out (λ h e. (ours_reads j q h e).1))
      hands (elsewhere f) limit = survive_or (λ inside. hand_elsewhere inside f) (λ out. hand_away out (λ h e. (f h e).0))
      hands (resets x) limit = hand_resets (reset_inside x limit) x limit

      hand_step : Covered c at v.under v.cut v.known p → OfAttempt c i (read_of p) → Next (hand_member k i) (with_member w i received (written received.bytes))
      unfolding course_of took_at submitted_at
      hand_step cov limit = idle_step (hand_member k i) received (written received.bytes) refl (λ j. refl) (λ j. refl) (hands cov limit)

    -- the sequencer's calls that only read
    module _ (sequencing : t.sequencing ≡ true) where
      reads_step : (e : Event) (o : sequencer.Outcome) → o.sequencer ≡ t.sequencer → All (SequencerWrote t.sequencer.group.number o.sequencer.floor.0) (written o.bytes)
          → ((q : i ≡ c.elected) → t.member.group.number ≡ c.number → Inv n resilience line c at (w.packets ++ written o.bytes) tk sb)
          → course_of c e (by_sequencer o.answer o.bytes) ≡ c → ((j : ℕ) → took_at j e (by_sequencer o.answer o.bytes) ≡ []) → ((j : ℕ) → submitted_at j e (by_sequencer o.answer o.bytes) ≡ [])
          → Next e (with_sequencer w i (terminal.ordered t o))
      reads_step e o leaves wrote own course took sent =
          let t' : Terminal = terminal.with_sequencer t o.sequencer in
          let same : t' ≡ t = ap (λ (s : Sequencer). terminal.with_sequencer t s) leaves in
          plain_next e (with_sequencer w i (terminal.ordered t o)) c course took sent (sized t')
          (eq_or t.sequencer.group.number c.number
          (λ q. let x = (v.sits i b).only sequencing q in inv_same n resilience line c at (after t') (w.packets ++ written o.bytes) tk tk sb sb (same_at t' same) (λ j. refl) (λ j. refl) (own x.0 x.1))
          (λ q. let f = (v.sits i b).old sequencing q in still t' (written o.bytes) same (wrote_covered c at v.under v.cut v.known (written o.bytes) t.sequencer.group.number (used_fits f) f (all_map _ _ (λ p y. y.wrote) (written o.bytes) wrote))))

      poll_step : Next (poll i) (with_sequencer w i (terminal.poll_of t longest_packet))
      unfolding terminal.poll_of course_of took_at submitted_at
      poll_step =
          reads_step (poll i) (sequencer.poll_of t.sequencer longest_packet) (poll_leaves t.sequencer longest_packet) (poll_sends_own t.sequencer longest_packet)
          (λ q here.
          subst (λ (k : ℕ). Inv n resilience line c at (w.packets ++ written (sequencer.poll_of (at k).sequencer longest_packet).bytes) tk sb) (sym q)
          (poll_next n resilience line c at w.packets tk sb v (subst (λ (k : ℕ). k < n) q b) (subst (λ (k : ℕ). (at k).member.group.number ≡ c.number) q here)))
          refl (λ j. refl) (λ j. refl)

      copy_step : (k : ℕ) → Next (copy i k) (with_sequencer w i (terminal.copy_of t (record { 0 = k }) longest_packet))
      unfolding terminal.copy_of course_of took_at submitted_at
      copy_step k =
          reads_step (copy i k) (sequencer.copy_of t.sequencer (record { 0 = k }) longest_packet) (copy_leaves t.sequencer (record { 0 = k }) longest_packet) (copy_sends_own t.sequencer (record { 0 = k }) longest_packet)
          (λ q here.
          subst (λ (j : ℕ). Inv n resilience line c at (w.packets ++ written (sequencer.copy_of (at j).sequencer (record { 0 = k }) longest_packet).bytes) tk sb) (sym q)
          (copy_next n resilience line c at w.packets tk sb v (subst (λ (j : ℕ). j < n) q b) (subst (λ (j : ℕ). (at j).member.group.number ≡ c.number) q here) (record { 0 = k })))
          refl (λ j. refl) (λ j. refl)

      -- a packet handed to the sequencer
      module _ (k : ℕ) (p : List ℕ) where
        abbrev x : terminal.SequencerOutcome
        x = terminal.order_of t p longest_packet

        abbrev Orders : Type 0
        Orders = Next (hand_sequencer k i) (with_sequencer w i x)

        abbrev adds : List Ordered
        adds = when is_in c.survivors i then numbered_by x.answer x.bytes else []

        order_step_by : (order : List Ordered) → c.order ++ adds ≡ order → Inv n resilience line (with_order c order) (after x.terminal) (w.packets ++ written x.bytes) tk sb → Orders
        unfolding course_of took_at submitted_at numbered_in
        order_step_by order is h =
            plain_next (hand_sequencer k i) (with_sequencer w i x) (with_order c order) (ap (with_order c) is) (λ j. refl) (λ j. refl) (sized x.terminal) h

        -- it stays as it was
        quiet_order : (x.terminal ≡ t) × (x.bytes ≡ []) × (numbered_by x.answer x.bytes ≡ []) → Orders
        unfolding written
        quiet_order (same, silent, none-numbered) =
            order_step_by c.order (ap (λ (l : List Ordered). c.order ++ (when is_in c.survivors i then l else [])) none-numbered ∙ ap (λ (l : List Ordered). c.order ++ l) (when_either (is_in c.survivors i) []) ∙ append-nil c.order)
            (subst (λ (l : List ℕ). Inv n resilience line c (after x.terminal) (w.packets ++ written l) tk sb) (sym silent) (still x.terminal [] same tt))

        order_group : x.terminal.sequencer.group ≡ t.sequencer.group
        unfolding terminal.order_of sequencer.answered
        order_group =
            judged_elim (λ (o : sequencer.Outcome). o.sequencer.group ≡ t.sequencer.group) (sequencer.call_verdict t.sequencer longest_packet) (λ _ _. refl) (λ _. ordered_group t (read_of p) (payload_at p))

        order_frame : (x.terminal.member ≡ t.member) × (x.terminal.reset ≡ t.reset) × (x.terminal.sequencing ≡ t.sequencing)
        unfolding terminal.order_of
        order_frame = (refl, refl, refl)

        -- at one that was left out
        order_away : is_in c.survivors i ≡ false → Orders
        order_away out =
            let f : Foreign c t.sequencer.group.number = (v.sits i b).old sequencing (λ q. false≢true (sym out ∙ subst (λ (j : ℕ). is_in c.survivors j ≡ true) (sym ((v.sits i b).only sequencing q).0) v.seen.standing.elected_in)) in
            let fr = order_frame in
            order_step_by c.order (ap (λ (l : List Ordered). c.order ++ l) (sym (when_false (is_in c.survivors i) _ _ _ out refl)) ∙ append-nil c.order)
            (away_next n resilience line c at w.packets tk sb v i b out x.terminal (after x.terminal) (here x.terminal) (rest x.terminal) (ap (λ (m : Member). m.group.number) fr.0) fr.1 fr.2
            (ap (λ (g : description.Group). g.number) order_group) tk sb (λ j _. refl) (λ j _. refl) (written x.bytes)
            (elsewheres (written x.bytes) t.sequencer.group.number f (all_map _ _ (λ p y. y.wrote) (written x.bytes) (order_sends t p longest_packet))))

        -- at a survivor
        module _ (inside : is_in c.survivors i ≡ true) where
          abbrev own : Survivor n resilience c v.under v.cut (Low n resilience c v.cut at) i t
          own = (v.sits i b).survivor inside

          order_frozen : ((h : Header) → read_of p ≡ Ok h → terminal.of_reset (content_of h) ≡ false) → t.frozen ≡ true → Orders
          order_frozen plain f =
              quiet_order (shut_orders t p longest_packet (λ h e. no_and (h.group =? t.sequencer.group.number) _ (sym (when_true t.frozen false (terminal.of_reset (content_of h)) true f (sym (plain h e))))))

          order_other : ((h : Header) → read_of p ≡ Ok h → h.group ≢ t.sequencer.group.number) → Orders
          order_other other = quiet_order (shut_orders t p longest_packet (λ h e. first_no_lem (h.group =? t.sequencer.group.number) _ (ne_eqb _ _ (other h e))))

          order_ours : (j : ℕ) → get_elem? v.known j ≡ some p → i ≡ c.elected → t.member.group.number ≡ c.number → t.frozen ≡ false → Orders
          order_ours j q first here_is awake =
              let P : ℕ → Type 0 = λ e. (e < n) → ((at e).member.group.number ≡ c.number) → ((at e).frozen ≡ false) → c.elected ≡ e
              → (y : terminal.SequencerOutcome) → y ≡ terminal.order_of (at e) p longest_packet → (u : ℕ → Terminal) → u e ≡ y.terminal → ((j : ℕ) → j ≢ e → u j ≡ at j)
              → Inv n resilience line (with_order c (c.order ++ numbered_by y.answer y.bytes)) u (w.packets ++ written y.bytes) tk sb in
              let base : P c.elected = λ l z a _ y is u h g.
              let same = is ∙ order_is n resilience line c at w.packets tk sb v l z p j q a in
              subst (λ (y : terminal.SequencerOutcome). u c.elected ≡ y.terminal → Inv n resilience line (with_order c (c.order ++ numbered_by y.answer y.bytes)) u (w.packets ++ written y.bytes) tk sb) (sym same)
              (λ h. order_next n resilience line c at w.packets tk sb v l z p j q a u h g) h in
              let go : P i = subst P (sym first) base in
              order_step_by (c.order ++ numbered_by x.answer x.bytes) (ap (λ (l : List Ordered). c.order ++ l) (sym (when_true (is_in c.survivors i) _ _ _ inside refl)))
              (go b here_is awake (sym first) x refl (after x.terminal) (here x.terminal) (rest x.terminal))

          order_survivor : Covered c at v.under v.cut v.known p → Orders
          order_survivor cov = go cov t.frozen refl
            where
              go : Covered c at v.under v.cut v.known p → (f : Bool) → t.frozen ≡ f → Orders
              go (resets y) f e =
                  let reads = reset_reads c at v.under v.cut p y in
                  let of = of_reset_lem c at v.under v.cut y.number y.content y.payload y.says in
                  quiet_order (reset_orders t p longest_packet _ reads.0 (ap terminal.of_reset (content_fields y.number y.content) ∙ of))
              go (ours j q) true e = order_frozen (λ h z. (ours_reads k p j q h z).1) e
              go (elsewhere f) true e = order_frozen (λ h z. (f h z).0) e
              go (ours j q) false e = let a = own.awake sequencing e in let z = (v.sits i b).only sequencing a.1 in order_ours j q z.0 z.1 e
              go (elsewhere f) false e = let a = own.awake sequencing e in order_other (λ h z y. (f h z).1.unlike (y ∙ a.1))

        order_step : Covered c at v.under v.cut v.known p → Orders
        order_step cov = survive_or (λ inside. order_survivor inside cov) (λ out. order_away out)

    -- inviting
    module _ (inside : is_in c.survivors i ≡ true) where
      abbrev stood : Survivor n resilience c v.under v.cut (Low n resilience c v.cut at) i t
      stood = (v.sits i b).survivor inside

      whole : terminal.whole_verdict t longest_packet ≡ all_yes
      unfolding terminal.whole_verdict when◌then◌else◌
      whole = rw stood.sound

      invite_step_lem : (attempt : ℕ) → Fresh attempt c.used → attempt ≤ largest_number → Next (invite i attempt) (with_member w i (terminal.invite_of t attempt longest_packet) (written (terminal.invite_of t attempt longest_packet).bytes))
      unfolding terminal.invite_of judged course_of took_at submitted_at is_sent when◌then◌else◌
      invite_step_lem attempt new fits =
          let t' : Terminal = terminal.with_reset t (terminal.invitation t attempt) (terminal.freezes t) in
          let bytes : List ℕ = packet_of (fields_of t.member.group.number (Packet.Invitation t.member.number attempt)) [] in
          rw whole
          (plain_next (invite i attempt) (with_member w i (record { terminal = t'; answer = memberAnswer.Answer.Sent; bytes = bytes }) (written bytes)) (invited c i attempt) refl (λ j. refl) (λ j. refl) (sized t')
          (subst (λ (l : List (List ℕ)). Inv n resilience line (invited c i attempt) (after t') (w.packets ++ l) tk sb) (sym (written_one bytes (packet_long (Packet.Invitation t.member.number attempt) t.member.group.number [])))
          (invite_next n resilience line c at w.packets tk sb v i b inside attempt new fits (after t') (here t') (rest t'))))

    -- a making that makes no group
    make_none : (demand : ℕ) → (is_sent (by_member (terminal.make_of t demand longest_packet).answer (terminal.make_of t demand longest_packet).bytes) ≡ true → ⊥)
        → Next (make i demand) (with_member w i (terminal.make_of t demand longest_packet) (written (terminal.make_of t demand longest_packet).bytes))
    unfolding terminal.make_of terminal.refused course_of took_at submitted_at is_sent when◌then◌else◌ written
    make_none demand =
        let P : terminal.Outcome → Type 0 = λ x. (is_sent (by_member x.answer x.bytes) ≡ true → ⊥) → Next (make i demand) (with_member w i x (written x.bytes)) in
        let refuse : (r : Refusal) → P (terminal.refused t r) =
        λ r _. plain_next (make i demand) (with_member w i (terminal.refused t r) []) c refl (λ j. refl) (λ j. refl) (sized t) (still t [] refl tt) in
        judged_elim P (terminal.whole_verdict t longest_packet) (λ r _. refuse r)
        (λ _. when_elim P t.reset.inviting (λ _. when_elim P (demand ≤? ones t.reset.repliers) (λ _ f. absurd (f refl)) (λ _. refuse Refusal.FewSurvivors)) (λ _. refuse Refusal.NotOfAttempt))

  -- an event that names nothing that is there
  absent_course : (e : Event) → course_of c e absent ≡ c
  unfolding course_of numbered_in is_sent when◌then◌else◌
  absent_course (submit i p) = refl
  absent_course (repeat i) = refl
  absent_course (take i) = refl
  absent_course (status i) = refl
  absent_course (poll i) = refl
  absent_course (copy i k) = refl
  absent_course (hand_member k i) = refl
  absent_course (hand_sequencer k i) = ap (with_order c) (ap (λ (l : List Ordered). c.order ++ l) (when_either (is_in c.survivors i) []) ∙ append-nil c.order)
  absent_course (invite i k) = refl
  absent_course (make i demand) = refl

  absent_took : (e : Event) (j : ℕ) → took_at j e absent ≡ []
  unfolding took_at took_in
  absent_took (submit i p) j = refl
  absent_took (repeat i) j = refl
  absent_took (take i) j = when_either (i =? j) []
  absent_took (status i) j = refl
  absent_took (poll i) j = refl
  absent_took (copy i k) j = refl
  absent_took (hand_member k i) j = refl
  absent_took (hand_sequencer k i) j = refl
  absent_took (invite i k) j = refl
  absent_took (make i demand) j = refl

  absent_submitted : (e : Event) (j : ℕ) → submitted_at j e absent ≡ []
  unfolding submitted_at accepted_in
  absent_submitted (submit i p) j = when_either (i =? j) []
  absent_submitted (repeat i) j = refl
  absent_submitted (take i) j = refl
  absent_submitted (status i) j = refl
  absent_submitted (poll i) j = refl
  absent_submitted (copy i k) j = refl
  absent_submitted (hand_member k i) j = refl
  absent_submitted (hand_sequencer k i) j = refl
  absent_submitted (invite i k) j = refl
  absent_submitted (make i demand) j = refl

  absent_next : (e : Event) → Next e (missing w)
  absent_next e = plain_next e (missing w) c (absent_course e) (absent_took e) (absent_submitted e) long v

  at_terminal_lem : (e : Event) (i : ℕ) (call : Terminal → terminal.Outcome) → ((b : i < n) → Next e (with_member w i (call (at i)) (written (call (at i)).bytes))) → Next e (at_terminal w i call)
  at_terminal_lem e i call h = when_elim (Next e) (i <? length w.terminals) (λ b. h (let z = ltb-true i (length w.terminals) b in omega arith)) (λ _. absent_next e)

  at_sequencer_lem : (e : Event) (i : ℕ) (call : Terminal → terminal.SequencerOutcome) → ((b : i < n) → (at i).sequencing ≡ true → Next e (with_sequencer w i (call (at i)))) → Next e (at_sequencer w i call)
  at_sequencer_lem e i call h =
      when_elim (Next e) (i <? length w.terminals and (at i).sequencing)
      (λ x. h (let z = ltb-true i (length w.terminals) (both_first (i <? length w.terminals) _ x) in omega arith) (both_then (i <? length w.terminals) _ x)) (λ _. absent_next e)

  -- what is asked of an event: the limit, and that it makes no group
  abbrev pub Asked : Event → Type 0
  Asked (submit i payload) = Unit {0}
  Asked (repeat i) = Unit {0}
  Asked (take i) = Unit {0}
  Asked (status i) = Unit {0}
  Asked (poll i) = Unit {0}
  Asked (copy i k) = Unit {0}
  Asked (hand_member k i) = Handed c i (get_elem? w.packets k)
  Asked (hand_sequencer k i) = Unit {0}
  Asked (invite i k) = (is_in c.survivors i ≡ true) × Fresh k c.used × (k ≤ largest_number)
  Asked (make i demand) = is_sent (happen w (make i demand)).answer ≡ true → ⊥

  make_at : (i demand : ℕ) → (is_sent (at_terminal w i (λ t. terminal.make_of t demand longest_packet)).answer ≡ true → ⊥) → Next (make i demand) (at_terminal w i (λ t. terminal.make_of t demand longest_packet))
  make_at i demand =
      when_elim (λ (d : Happened). (is_sent d.answer ≡ true → ⊥) → Next (make i demand) d) (i <? length w.terminals)
      (λ b f. make_none i (let z = ltb-true i (length w.terminals) b in omega arith) demand f) (λ _ _. absent_next (make i demand))

  pub step_next : (e : Event) → Asked e → Next e (happen w e)
  unfolding happen Handed
  step_next (submit i payload) a = at_terminal_lem (submit i payload) i (λ t. terminal.submit_of t payload longest_packet) (λ b. submit_step i b payload)
  step_next (repeat i) a = at_terminal_lem (repeat i) i (λ t. terminal.repeat_of t longest_packet) (λ b. repeat_step i b)
  step_next (take i) a = when_elim (Next (take i)) (i <? length w.terminals) (λ b. take_step i (let z = ltb-true i (length w.terminals) b in omega arith)) (λ _. absent_next (take i))
  step_next (status i) a = at_terminal_lem (status i) i (λ t. terminal.status_of t longest_packet) (λ b. status_step i b)
  step_next (poll i) a = at_sequencer_lem (poll i) i (λ t. terminal.poll_of t longest_packet) (λ b s. poll_step i b s)
  step_next (copy i k) a = at_sequencer_lem (copy i k) i (λ t. terminal.copy_of t (record { 0 = k }) longest_packet) (λ b s. copy_step i b s k)
  step_next (hand_member k i) a = handed (get_elem? w.packets k) refl a
    where
      handed : (x : Option (List ℕ)) → get_elem? w.packets k ≡ x → Handed c i x → Next (hand_member k i) (hand_to_member w i x)
      handed none e a = absent_next (hand_member k i)
      handed (some p) e a = at_terminal_lem (hand_member k i) i (λ t. terminal.receive_of t p longest_packet) (λ b. hand_step i b k p (all_get _ w.packets k v.covered e) a)
  step_next (hand_sequencer k i) a = handed (get_elem? w.packets k) refl
    where
      handed : (x : Option (List ℕ)) → get_elem? w.packets k ≡ x → Next (hand_sequencer k i) (hand_to_sequencer w i x)
      handed none e = absent_next (hand_sequencer k i)
      handed (some p) e = at_sequencer_lem (hand_sequencer k i) i (λ t. terminal.order_of t p longest_packet) (λ b s. order_step i b s k p (all_get _ w.packets k v.covered e))
  step_next (invite i k) a = at_terminal_lem (invite i k) i (λ t. terminal.invite_of t k longest_packet) (λ b. invite_step_lem i b a.0 k a.1 a.2)
  step_next (make i demand) a = make_at i demand a

  -- a making that makes a group
  pub record MadeNext (i demand : ℕ) (d : Happened) : Type 0 where
    pub inside : i < n
    pub inviting : (at i).reset.inviting ≡ true
    pub size_of : length d.group.terminals ≡ n
    pub course_is : course_of c (make i demand) d.answer ≡ made_from c (cut_of (at i).reset) (at i).reset.repliers (chosen_of (at i).reset).0
    pub next_holds : Inv n resilience (cut_of (at i).reset) (made_from c (cut_of (at i).reset) (at i).reset.repliers (chosen_of (at i).reset).0) (terminal_at d.group) d.group.packets tk sb

  module _ (i demand : ℕ) (b : i < n) (mine : c.initiator ≡ i) (inviting : (at i).reset.inviting ≡ true) where
    abbrev r : Reset
    r = (at i).reset

    abbrev fields : Header
    fields = fields_of (at i).member.group.number (Packet.Result (at i).member.number r.invited (chosen_of r) (record { 0 = cut_of r }))

    abbrev bytes : List ℕ
    bytes = packet_of fields (bytes_of survivors_size r.repliers)

    abbrev t' : Terminal
    t' = result_of (at i) r.invited (chosen_of r) (record { 0 = cut_of r }) r.repliers

    made_course : made c bytes ≡ made_from c (cut_of r) r.repliers (chosen_of r).0
    unfolding fields_of
    made_course =
        let f = fields_fit n resilience line c at w.packets tk sb v i b mine inviting in
        let head : header_of bytes ≡ fields = header_back fields (bytes_of survivors_size r.repliers) f in
        let a : (header_of bytes).a ≡ c.attempt = ap (λ (h : Header). h.a) head ∙ attempt_is n resilience line c at w.packets tk sb v i b mine inviting in
        let e : (header_of bytes).b ≡ (chosen_of r).0 = ap (λ (h : Header). h.b) head in
        let l : (header_of bytes).c ≡ cut_of r = ap (λ (h : Header). h.c) head in
        let m : survivors_in (payload_at bytes) ≡ r.repliers = ap survivors_in (payload_back fields (bytes_of survivors_size r.repliers)) ∙ survivors_back n resilience line c at w.packets tk sb v i b mine inviting in
        λ j. record { order = list.take (l j) c.order; survivors = m j; elected = e j; number = a j; attempt = c.attempt; initiator = c.initiator; used = c.used }

    make_inv : terminal_sound t' ≡ true → Inv n resilience (cut_of r) (made_from c (cut_of r) r.repliers (chosen_of r).0) (after i b t') (w.packets ++ written bytes) tk sb
    make_inv sound =
        subst (λ (l : List (List ℕ)). Inv n resilience (cut_of r) (made_from c (cut_of r) r.repliers (chosen_of r).0) (after i b t') (w.packets ++ l) tk sb)
        (sym (written_one bytes (packet_long (Packet.Result (at i).member.number r.invited (chosen_of r) (record { 0 = cut_of r })) (at i).member.group.number (bytes_of survivors_size r.repliers))))
        (make_next n resilience line c at w.packets tk sb v i b mine inviting (after i b t') (here i b t') (rest i b t') sound)

    sent_is : (demand ≤? ones r.repliers) ≡ true → terminal.whole_verdict (at i) longest_packet ≡ all_yes → terminal.make_of (at i) demand longest_packet ≡ record { terminal = t'; answer = memberAnswer.Answer.Sent; bytes = bytes }
    unfolding terminal.make_of judged when◌then◌else◌
    sent_is d whole = rw (whole, inviting, d)

    make_sound : (demand ≤? ones r.repliers) ≡ true → terminal.whole_verdict (at i) longest_packet ≡ all_yes → terminal_sound t' ≡ true
    make_sound d whole =
        let s = stands_at n resilience line c at w.packets tk sb v i b mine inviting i (itself n resilience line c at w.packets tk sb v i b mine inviting) in
        subst (λ (x : terminal.Outcome). terminal_sound x.terminal ≡ true) (sent_is d whole) (terminalProofs.make_keeps (at i) demand longest_packet s.typed s.sound)

  make_sent_at : (i demand : ℕ) → c.initiator ≡ i → is_sent (at_terminal w i (λ t. terminal.make_of t demand longest_packet)).answer ≡ true → MadeNext i demand (at_terminal w i (λ t. terminal.make_of t demand longest_packet))
  unfolding terminal.make_of terminal.refused is_sent course_of bytes_in when◌then◌else◌
  make_sent_at i demand mine =
      let t = at i in
      when_elim (λ (d : Happened). is_sent d.answer ≡ true → MadeNext i demand d) (i <? length w.terminals)
      (λ l.
      let b : i < n = (let z = ltb-true i (length w.terminals) l in omega arith) in
      let P : terminal.Outcome → Type 0 = λ x. is_sent (by_member x.answer x.bytes) ≡ true → MadeNext i demand (with_member w i x (written x.bytes)) in
      judged_elim P (terminal.whole_verdict t longest_packet) (λ _ _ e. absurd (false≢true e))
      (λ whole. when_elim P t.reset.inviting
      (λ h. when_elim P (demand ≤? ones t.reset.repliers)
      (λ d _.
      record {
        inside = b;
        inviting = h;
        size_of = sized i b (t' i demand b mine h);
        course_is = made_course i demand b mine h;
        next_holds = make_inv i demand b mine h (make_sound i demand b mine h d whole);
      })
      (λ _ e. absurd (false≢true e))) (λ _ e. absurd (false≢true e))))
      (λ _ e. absurd (false≢true e))

  pub make_sent : (i demand : ℕ) → c.initiator ≡ i → is_sent (happen w (make i demand)).answer ≡ true → MadeNext i demand (happen w (make i demand))
  unfolding happen
  make_sent i demand mine sent = make_sent_at i demand mine sent
