-- Each call of a terminal's member owes the group what demand 3's invariant asks: the state that it leaves is a terminal's, and
-- the packets that it wrote say what is so. Assumes nothing.
use Rattle.std.specs.Prelude.{Ok}
use mathlib.Core.Path.{◌≡◌, refl, sym, ap, ◌∙◌, subst}
use mathlib.Core.Bool.{false}
use mathlib.Core.Logic.{◌⊎◌, inl, inr}
use mathlib.Core.Option.{some}
use mathlib.Core.List.{List, [], ◌∷◌, ◌++◌, append-nil}
use Prim.Native.Nat.{ℕ, suc, ◌+◌, ◌-◌, ◌≤◌, ◌<◌}
use native.Mathlib.Nat.{le_refl, le_trans}
use native.Mathlib.Numerals.{add-one}
use native.Mathlib.Omega.{arith}
use borrow.Author.Tests.{leb-true}
use lib.ListN.{length, length-append}
use lib.Seq.{take-append-le}
use Rattle.group.specs.Choice.{◌≤?◌, ◌=?◌}
use Rattle.group.specs.Limits.{held_most, waiting_most, payload_most, longest_packet, largest_number}
use Rattle.group.specs.Members.{needed_of}
use Rattle.group.specs.declared.Group.{Group}
use Rattle.group.specs.declared.MemberNumber.{MemberNumber}
use Rattle.group.specs.declared.Refusal.{Refusal}
use Rattle.group.proofs.Lists.{eq_or, when_elim, judged_elim, at, All, at_append, at_last, at_snoc}
use Rattle.message.specs.Message.{Message, message_of}
use Rattle.message.specs.Order.{Ordered, own_of, counted_from}
use Rattle.message.proofs.Owning.{own_most}
use Rattle.packet.specs.Packet.{header_of, content_of, fields_of, payload_at, read_of, written}
use Rattle.packet.specs.declared.Header.{Header}
use Rattle.packet.specs.declared.Packet.{Packet}
use Rattle.packet.specs.declared.Packet.TheVariants.{Request, Broadcast, Gap, Status, Poll, Offer, Confirm, Accept, Invitation, Result}
use Rattle.packet.proofs.Facts.{ordered, Voice, Facts, Says, Known, KnownBy, Louder}
use Rattle.packet.proofs.Laws.{read_written, content_fields}
use Rattle.packet.proofs.RoundTrip.{header_back}
use Rattle.member.specs.Calls.{Outcome, answered, request_packet, call_verdict, submit_verdict, with_waiting, submit_of, repeat_of, status_of, with_accepted, with_held, read_step, receive_of}
use Rattle.member.specs.Order.{accepted_by}
use Rattle.member.specs.State.{Member}
use Rattle.member.specs.declared.Answer.{Answer}
use Rattle.member.proofs.Invariant.{requested_by, voice_of, Content, Terminal, MemberGood, first_requested, requested_grows}
use Rattle.member.proofs.Keeping.{waiting_typed, waiting_sound_lem}
use Rattle.member.proofs.Laws.{Right, submittable, read_keepable}
use Rattle.member.proofs.Acknowledged.{Up, up_refl, up_row, up_waiting, up_accepted, up_held}
use Rattle.window.specs.Places.{is_held, queue_place}
use Rattle.window.proofs.Keeping.{queue_one, queued_each}
use Rattle.window.proofs.Missing.{place_one, held_each}
use Rattle.window.proofs.Row.{larger_le, le_larger}
use Rattle.member.proofs.Receiving.{Keepable, read_heard}
use Rattle.member.proofs.Soundness.{Sound, sound_of_lem, of_sound}
use Rattle.member.proofs.Writes.{Own, request_own, status_own}

module _ (group : Group) (i acknowledged accepted : ℕ) (order took : List Ordered) (submitted : List (List ℕ)) where
  -- packets that are the member's own are terminal i's
  own_known : (o : Outcome) (took' : List Ordered) (submitted' : List (List ℕ)) → Terminal group i acknowledged accepted o.member order took' submitted' → Own (requested_by o.member submitted') o
      → All (KnownBy group.number (needed_of group) i (voice_of o.member submitted')) (written o.bytes)
  own_known o took' submitted' h k =
      let v = voice_of o.member submitted' in
      subst (λ (x : Group). All (KnownBy x.number (needed_of x) i v) (written o.bytes)) h.seat.group_is
      (subst (λ (x : ℕ). All (KnownBy o.member.group.number (needed_of o.member.group) x v) (written o.bytes)) h.seat.number_is k)

  -- what it can say of itself grows with its state
  pub louder : (m m' : Member) (took' : List Ordered) (submitted' : List (List ℕ)) → Up m m' → Content i m order took submitted → Content i m' order took' submitted'
      → length (own_of i took) ≤ length (own_of i took') → ((c : ℕ) (payload : List ℕ) → at submitted c ≡ some payload → at submitted' c ≡ some payload)
      → Louder (voice_of m submitted) (voice_of m' submitted')
  louder m m' took' submitted' up h h' le more = record { row = up_row m m' up; reach = up.reach; submitted = requested_grows h h' le more }

  module _ (m : Member) (h : Terminal group i acknowledged accepted m order took submitted) where
    abbrev Good : Outcome → Type 0
    Good o = MemberGood group i acknowledged accepted order submitted m took submitted (written o.bytes) o

    -- a call that leaves the state
    same : (o : Outcome) → o.member ≡ m → Own (requested_by o.member submitted) o → Good o
    same o e k =
        let h' : Terminal group i acknowledged accepted o.member order took submitted = rw e h in
        record { terminal = h'; louder = louder m o.member took submitted (rw e (up_refl m)) h.content h'.content (le_refl _) (λ c payload z. z); known = own_known o took submitted h' k }

    quiet : (answer : Answer) → Good (answered m answer)
    unfolding answered written
    quiet answer = same (answered m answer) refl tt

    -- status and repeat
    pub status_good : Good (status_of m longest_packet)
    unfolding status_of
    status_good =
        judged_elim Good (call_verdict m longest_packet) (λ r _. quiet (Answer.Refused r))
        (λ e. same _ refl (status_own m h.content.typed (sound_of_lem m h.content.sound) (requested_by m submitted) Answer.Sent))

    pub repeat_good : Good (repeat_of m longest_packet)
    unfolding repeat_of
    repeat_good =
        judged_elim Good (call_verdict m longest_packet) (λ r _. quiet (Answer.Refused r))
        (λ _. when_elim Good (1 ≤? m.waiting)
        (λ e. let w = leb-true 1 m.waiting e in
        same _ refl (request_own m h.content.typed (sound_of_lem m h.content.sound) (requested_by m submitted) Answer.Sent w (first_requested h.content w)))
        (λ _. quiet (Answer.Refused Refusal.NothingWaiting)))

    -- submit
    abbrev GoodSubmit : List ℕ → Outcome → Type 0
    GoodSubmit payload o = MemberGood group i acknowledged accepted order submitted m took (submitted ++ accepted_by o.answer payload) (written o.bytes) o

    submit_refused : (payload : List ℕ) (refusal : Refusal) → GoodSubmit payload (answered m (Answer.Refused refusal))
    unfolding answered accepted_by
    submit_refused payload refusal = rw append-nil (quiet (Answer.Refused refusal))

    module _ (payload : List ℕ) (short : length payload ≤ payload_most) (less : m.waiting < waiting_most) (left : m.submitted < largest_number) where
      last : at (submitted ++ (payload ∷ [])) (m.submitted + 1) ≡ some payload
      last = rw (add-one, h.content.submitted_is) (at_last submitted payload)

      all_short : (c : ℕ) (p : List ℕ) → at (submitted ++ (payload ∷ [])) c ≡ some p → length p ≤ payload_most
      all_short c p e = go (at_snoc submitted payload c e)
        where
          go : (at submitted c ≡ some p) ⊎ ((c ≡ suc (length submitted)) × (payload ≡ p)) → length p ≤ payload_most
          go (inl z) = h.content.payload_ok c p z
          go (inr z) = rw (← z.1) short

      waiting_sound' : Sound (with_waiting m payload)
      waiting_sound' = waiting_sound_lem m h.content.typed payload short less (sound_of_lem m h.content.sound)

      waiting_content : Content i (with_waiting m payload) order took (submitted ++ (payload ∷ []))
      unfolding with_waiting
      waiting_content =
          record {
            typed = waiting_typed m h.content.typed payload left;
            sound = of_sound _ waiting_sound';
            taken_le = h.content.taken_le;
            took_is = h.content.took_is;
            held_is = h.content.held_is;
            submitted_is = let z = h.content.submitted_is in simp length-append (omega arith);
            count_le = (let z = h.content.count_le in omega arith);
            own_taken = (let z = h.content.own_taken in omega arith);
            waiting_is = λ c lo hi.
                queued_each m.queue h.content.typed.queue (m.submitted + 1) (message_of m.number (m.submitted + 1) payload)
                (λ (x : Message). (p : List ℕ) × (at (submitted ++ (payload ∷ [])) c ≡ some p) × (x ≡ message_of (record { 0 = i }) c p)) c
                (λ e. rw (queue_one (m.submitted - m.waiting) (m.submitted + 1) c (omega arith) (let z = (sound_of_lem m h.content.sound).waiting.enough in omega arith) (omega arith) (let z = (sound_of_lem m h.content.sound).waiting.enough in omega arith) e)
                (payload, last, ap (λ (k : ℕ). message_of (record { 0 = k }) (m.submitted + 1) payload) h.seat.number_is))
                (λ e. let z = h.content.waiting_is c (omega arith) (eq_or c (m.submitted + 1) (λ q. absurd (e (ap queue_place q))) (λ q. omega arith)) in
                (z.0, at_append submitted (payload ∷ []) c z.1, z.2));
            own_is = h.content.own_is ∙ ap (counted_from 1) (sym (take-append-le (length (own_of i order)) submitted (payload ∷ []) (own_most i order submitted h.content.own_is)));
            payload_ok = all_short;
          }

      waiting_terminal : Terminal group i acknowledged accepted (with_waiting m payload) order took (submitted ++ (payload ∷ []))
      unfolding with_waiting
      waiting_terminal =
          record {
            content = waiting_content;
            seat =
                record {
                  group_is = h.seat.group_is;
                  number_is = h.seat.number_is;
                  acknowledged_le = le_trans h.seat.acknowledged_le (up_row m (with_waiting m payload) (up_waiting m payload));
                  accepted_le = h.seat.accepted_le;
                  plain = h.seat.plain;
                };
          }

      one_waits : 1 ≤ (with_waiting m payload).waiting
      unfolding with_waiting
      one_waits = omega arith

      waiting_louder : Louder (voice_of m submitted) (voice_of (with_waiting m payload) (submitted ++ (payload ∷ [])))
      waiting_louder = louder m (with_waiting m payload) took _ (up_waiting m payload) h.content waiting_content (le_refl _) (λ c p e. at_append submitted (payload ∷ []) c e)

      -- none waited: its request is written
      sends_good : GoodSubmit payload (record { member = with_waiting m payload; answer = Answer.Sent; bytes = request_packet (with_waiting m payload) })
      unfolding accepted_by
      sends_good =
          let o : Outcome = record { member = with_waiting m payload; answer = Answer.Sent; bytes = request_packet (with_waiting m payload) } in
          record {
            terminal = waiting_terminal;
            louder = waiting_louder;
            known =
                own_known o took (submitted ++ (payload ∷ [])) waiting_terminal
                (request_own (with_waiting m payload) waiting_content.typed waiting_sound' (requested_by (with_waiting m payload) (submitted ++ (payload ∷ []))) Answer.Sent
                one_waits (first_requested waiting_content one_waits));
          }

      -- behind another: nothing is written
      queues_good : GoodSubmit payload (answered (with_waiting m payload) (Answer.Queued (m.submitted + 1)))
      unfolding answered accepted_by written
      queues_good = record { terminal = waiting_terminal; louder = waiting_louder; known = tt }

    pub submit_good : (payload : List ℕ) → GoodSubmit payload (submit_of m payload longest_packet)
    unfolding submit_of
    submit_good payload =
        judged_elim (GoodSubmit payload) (call_verdict m longest_packet) (λ r _. submit_refused payload r)
        (λ _. judged_elim (GoodSubmit payload) (submit_verdict m (length payload)) (λ r _. submit_refused payload r)
        (λ e. let a = submittable m (length payload) e in
        when_elim (GoodSubmit payload) (m.waiting =? 0)
        (λ _. sends_good payload a.short a.less a.left)
        (λ _. queues_good payload a.short a.less a.left)))

    -- a packet
    abbrev Here : Member → Type 0
    Here m' = Terminal group i acknowledged accepted m' order took submitted

    -- all up to number k are accepted, which the sequencer accepted
    accepted_terminal : (k : ℕ) → k ≤ accepted → Right (with_accepted m k) → Here (with_accepted m k)
    unfolding with_accepted
    accepted_terminal k below (t, s) =
        record {
          content =
              record {
                typed = t;
                sound = of_sound _ s;
                taken_le = h.content.taken_le;
                took_is = h.content.took_is;
                held_is = h.content.held_is;
                submitted_is = h.content.submitted_is;
                count_le = h.content.count_le;
                own_taken = h.content.own_taken;
                waiting_is = h.content.waiting_is;
                own_is = h.content.own_is;
                payload_ok = h.content.payload_ok;
              };
          seat =
              record {
                group_is = h.seat.group_is;
                number_is = h.seat.number_is;
                acknowledged_le = le_trans h.seat.acknowledged_le (up_row m (with_accepted m k) (up_accepted m k));
                accepted_le = le_larger m.accepted.0 k accepted h.seat.accepted_le below;
                plain = λ e j a b c. let z = (larger_le m.accepted.0 k).0 in let y = h.seat.plain e j a b c in omega arith;
              };
        }

    -- the order's message of number k is held; where none has to confirm, it is accepted
    held_terminal : (originator : MemberNumber) (k c : ℕ) (payload : List ℕ) → at order k ≡ some (ordered k originator.0 c payload)
        → (needed_of group ≡ 0 → k ≤ m.accepted.0)
        → m.taken.0 < k → k ≤ m.taken.0 + held_most → is_held m.held k ≡ false → Right (with_held m k (message_of originator c payload)) → Here (with_held m k (message_of originator c payload))
    unfolding with_held
    held_terminal originator k c payload this plain lo hi empty (t, s) =
        record {
          content =
              record {
                typed = t;
                sound = of_sound _ s;
                taken_le = h.content.taken_le;
                took_is = h.content.took_is;
                held_is = λ j a b.
                    held_each m.held h.content.typed.held k (message_of originator c payload)
                    (λ (z : Message). 1 ≤ z.count → (y : Ordered) × (at order j ≡ some y) × (z ≡ message_of (record { 0 = y.originator }) y.count y.payload)) j
                    (λ e _. rw (place_one m.taken.0 k j lo hi a b e) (ordered k originator.0 c payload, this, refl))
                    (λ e. h.content.held_is j a b);
                submitted_is = h.content.submitted_is;
                count_le = h.content.count_le;
                own_taken = h.content.own_taken;
                waiting_is = h.content.waiting_is;
                own_is = h.content.own_is;
                payload_ok = h.content.payload_ok;
              };
          seat =
              record {
                group_is = h.seat.group_is;
                number_is = h.seat.number_is;
                acknowledged_le = le_trans h.seat.acknowledged_le (up_row m (with_held m k (message_of originator c payload)) (up_held m k (message_of originator c payload) lo hi empty));
                accepted_le = h.seat.accepted_le;
                plain = λ e j a b.
                    held_each m.held h.content.typed.held k (message_of originator c payload) (λ (z : Message). 1 ≤ z.count → j ≤ m.accepted.0) j
                    (λ q _. rw (place_one m.taken.0 k j lo hi a b q) (plain e))
                    (λ q. h.seat.plain e j a b);
              };
        }

  module _ (m : Member) (h : Terminal group i acknowledged accepted m order took submitted) where
    module _ (voice : ℕ → Voice) where
      abbrev facts : Facts
      facts = record { needed = needed_of group; order = order; accepted = accepted; voice = voice }

      says_keepable : (content : Packet) (payload : List ℕ) → Says facts content payload → Keepable Right m content payload → Keepable (Here m h) m content payload
      unfolding with_accepted
      says_keepable (Request sender taken c) payload so keep = tt
      says_keepable (Broadcast originator number c floor) payload so keep =
          let h' = accepted_terminal m h number.0 so.1 keep.0 in
          (h', λ a lo hi e. held_terminal (with_accepted m number.0) h' originator number.0 c payload so.0 (λ _. (larger_le m.accepted.0 number.0).1) lo hi e (keep.1 a lo hi e))
      says_keepable (Gap sender taken first last) payload so keep = tt
      says_keepable (Status sender taken) payload so keep = tt
      says_keepable (Poll elected top floor) payload so keep = tt
      says_keepable (Offer originator number c floor) payload so keep =
          (keep.0, λ a lo hi e. held_terminal m h originator number.0 c payload so.0 (λ q. let z = so.1 in absurd (omega arith)) lo hi e (keep.1 a lo hi e))
      says_keepable (Confirm sender number) payload so keep = tt
      says_keepable (Accept elected number) payload so keep = accepted_terminal m h number.0 so.0 keep
      says_keepable (Invitation sender attempt) payload so keep = tt
      says_keepable (Packet.Reply sender attempt number) payload so keep = tt
      says_keepable (Result sender attempt elected number) payload so keep = tt

      module _ (bytes : List ℕ) (k : Known group.number facts bytes) where
        -- what is read of a packet that the group knows
        known_read : (read_of bytes ≡ Ok (fields_of group.number k.content)) × (payload_at bytes ≡ k.payload)
        known_read = rw k.bytes_are (read_written (fields_of group.number k.content) k.payload k.allowed)

        known_most : (header_of bytes).a ≤ largest_number
        known_most = rw (k.bytes_are, header_back (fields_of group.number k.content) k.payload k.allowed.0) k.allowed.0.a

        known_keepable : (e : Header) → read_of bytes ≡ Ok e → ((fields_of e.group (content_of e)).a ≤ largest_number) × Keepable (Here m h) m (content_of e) (payload_at bytes)
        known_keepable e r =
            let z = known_read.0 in
            let q : e ≡ fields_of group.number k.content = cc in
            let c : content_of e ≡ k.content = ap content_of q ∙ content_fields group.number k.content in
            let right = read_keepable m bytes known_most (h.content.typed, sound_of_lem m h.content.sound) e r in
            let so : Says facts (content_of e) (payload_at bytes) = rw (c, known_read.1) k.says in
            (right.0, says_keepable (content_of e) (payload_at bytes) so right.1)

        pub receive_good : Good m h (receive_of m bytes longest_packet)
        unfolding receive_of
        receive_good =
            judged_elim (Good m h) (call_verdict m longest_packet) (λ r _. quiet m h (Answer.Refused r))
            (λ _. let o : Outcome = read_step m (read_of bytes) (payload_at bytes) in
            let a = read_heard (Here m h) (λ m' e. e.content.typed) (λ m' e. sound_of_lem m' e.content.sound) m h (read_of bytes) (payload_at bytes) known_keepable in
            record {
              terminal = a.state;
              louder = louder m o.member took submitted a.up h.content a.state.content (le_refl _) (λ c payload e. e);
              known = own_known o took submitted a.state (a.own (requested_by o.member submitted));
            })
