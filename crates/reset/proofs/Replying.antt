-- An invitation and a reply that are handed to a survivor, in the world. Assumes nothing.
use Rattle.std.specs.Prelude.{Ok}
use mathlib.Core.Path.{◌≡◌, refl, sym, ap, ◌∙◌, subst}
use mathlib.Core.Logic.{◌≢◌, ◌⊎◌, inl, inr}
use mathlib.Core.Bool.{Bool, true, false, false≢true}
use mathlib.Core.List.{List, [], ◌∷◌, ◌++◌, append-nil}
use Prim.Native.Nat.{ℕ, ◌^◌, ◌≤◌, ◌<◌}
use native.Mathlib.Nat.{le_refl}
use native.Mathlib.Omega.{arith}
use borrow.Author.Tests.{eqb-false}
use lib.Bits.{bit_or}
use lib.ListN.{length, get_or, set, length-set, length-replicate}
use lib.Seq.{get_or-set_same, get_or-set_other}
use Rattle.group.proofs.Lists.{when_elim, eq_or, All}
use Rattle.group.proofs.Members.{in_or, in_only}
use Rattle.group.specs.Choice.{when◌then◌else◌, ◌=?◌}
use Rattle.group.specs.Limits.{members_most, longest_packet, largest_number}
use Rattle.group.specs.Members.{is_in, only_of}
use Rattle.group.specs.Question.{judged}
use Rattle.group.specs.declared.Group as description
use Rattle.group.specs.declared.MemberNumber.{MemberNumber}
use Rattle.group.specs.declared.Refusal.{Refusal}
use Rattle.message.specs.Order.{Ordered}
use Rattle.member.specs.State.{Member, reach_of}
use Rattle.packet.proofs.Laws.{read_written, content_fields, fields_group}
use Rattle.packet.proofs.Permitted.{reply_fields}
use Rattle.packet.proofs.Verdicts.{accepted}
use Rattle.packet.specs.Packet.{read_of, payload_at, fields_of, packet_of}
use Rattle.packet.specs.declared.Packet.{Packet}
use Rattle.packet.specs.Answers.{Reading}
use Rattle.sequencer.specs.State.{Sequencer}
use Rattle.recovery.proofs.Beginning.{reach_fits}
use Rattle.recovery.proofs.Keeping.{Sound, sound_of_lem, of_sound, replied_sound, closed_sound, reply_sound_lem}
use Rattle.recovery.proofs.Masks.{or_in}
use Rattle.recovery.specs.Calls as terminal
use Rattle.recovery.specs.Sound.{terminal_sound}
use Rattle.recovery.specs.State.{Reset, Terminal, serves, reply_number}
use Rattle.reset.specs.Course.{Course}
use Rattle.reset.proofs.Before.{reset_named}
use Rattle.reset.proofs.Carried.{sound_member, called}
use Rattle.reset.proofs.Invariant.{Busy, Foreign, group_in, Low, Survivor, Answered, Open, GoodInvitation, GoodReply, SaysReset, Resets, Covered, resets, Inv, Goes}
use Rattle.reset.proofs.Keep.{keep, low_goes}
use Rattle.reset.proofs.Seen.{Seen, same_seen}
use Rattle.reset.proofs.View.{member_of, sequencer_of, member_reset, sequencer_reset}

-- a survivor whose part in a reset, and whether its sequencer is frozen, changed
pub reset_survivor : (n resilience : ℕ) (c c' : Course) (under cut : ℕ) (low low' : ℕ → Type 0) → ((x : ℕ) → low x → low' x) → (i : ℕ) (t : Terminal) (r : Reset) (f : Bool)
    → c'.order ≡ c.order → c'.number ≡ c.number → c'.elected ≡ c.elected → ((x : ℕ) → Foreign c x → Foreign c' x)
    → Survivor n resilience c under cut low i t → terminal_sound (terminal.with_reset t r f) ≡ true → length r.replies ≡ members_most → r.invited ≤ largest_number
    → (t.member.group.number ≡ c.number → c'.attempt ≡ c.number → (r.replied ≡ false) × (i ≡ c.elected → f ≡ false)) → (t.member.group.number ≢ c.number → r.replied ≡ true) → (f ≡ false → t.frozen ≡ false)
    → Survivor n resilience c' under cut low' i (terminal.with_reset t r f)
unfolding reply_number
reset_survivor n resilience c c' under cut low low' up i t r f eo en ee ef s sound' replies' invited' calm' waits' frozen' =
    record {
      sound = sound';
      typed = record { member = s.typed.member; sequencer = s.typed.sequencer; past = s.typed.past; counts = s.typed.counts; replies = replies' };
      invited = invited';
      size = s.size;
      resilient = s.resilient;
      itself = s.itself;
      remembers = rw eo s.remembers;
      serving = λ e. rw eo (s.serving e);
      reach_le = s.reach_le;
      floor_low = λ e. up _ (s.floor_low e);
      read_low = up _ s.read_low;
      calm = λ e d. (calm' (e ∙ en) (d ∙ en)).0;
      under_is = λ e. s.under_is (λ q. e (q ∙ sym en));
      foreign = λ e. ef _ (s.foreign (λ q. e (q ∙ sym en)));
      waits = λ e. waits' (λ q. e (q ∙ sym en));
      reply_le = λ e. s.reply_le (λ q. e (q ∙ sym en));
      awake = λ e q. let x = s.awake e (frozen' q) in (x.0 ∙ sym ee, x.1 ∙ sym en);
      present = λ e q. s.present (e ∙ ee) (q ∙ en);
      wakes = λ e q d. (calm' (q ∙ en) (d ∙ en)).1 (e ∙ ee);
      cut_is = λ e q. s.cut_is (e ∙ ee) (λ z. q (z ∙ sym en));
    }

-- a frozen sequencer stays so
pub freezes_not : (t : Terminal) → terminal.freezes t ≡ false → t.frozen ≡ false
freezes_not t = when_elim (λ (x : Bool). x ≡ false → t.frozen ≡ false) (serves t) (λ _ e. absurd (false≢true (sym e))) (λ _ e. e)

-- what such a packet is
pub of_reset_lem : (c : Course) (at : ℕ → Terminal) (under cut number : ℕ) (content : Packet) (payload : List ℕ) → SaysReset c at under cut number content payload → terminal.of_reset content ≡ true
unfolding terminal.of_reset
of_reset_lem c at under cut number (Packet.Request sender taken count) payload says = absurd says
of_reset_lem c at under cut number (Packet.Broadcast originator k count floor) payload says = absurd says
of_reset_lem c at under cut number (Packet.Gap sender taken first last) payload says = absurd says
of_reset_lem c at under cut number (Packet.Status sender taken) payload says = absurd says
of_reset_lem c at under cut number (Packet.Poll elected top floor) payload says = absurd says
of_reset_lem c at under cut number (Packet.Offer originator k count floor) payload says = absurd says
of_reset_lem c at under cut number (Packet.Confirm sender k) payload says = absurd says
of_reset_lem c at under cut number (Packet.Accept elected k) payload says = absurd says
of_reset_lem c at under cut number (Packet.Invitation sender attempt) payload says = refl
of_reset_lem c at under cut number (Packet.Reply sender attempt k) payload says = refl
of_reset_lem c at under cut number (Packet.Result sender attempt elected k) payload says = refl

pub reset_reads : (c : Course) (at : ℕ → Terminal) (under cut : ℕ) (p : List ℕ) (x : Resets c at under cut p) → (read_of p ≡ Ok (fields_of x.number x.content)) × (payload_at p ≡ x.payload)
reset_reads c at under cut p x =
    let r = read_written (fields_of x.number x.content) x.payload x.allowed in
    (ap read_of x.bytes_are ∙ r.0, ap payload_at x.bytes_are ∙ r.1)

-- a packet of a reset that is handed to a sound terminal
pub reset_is : (t : Terminal) (p : List ℕ) (number : ℕ) (content : Packet) (payload : List ℕ) → terminal_sound t ≡ true → (read_of p ≡ Ok (fields_of number content)) × (payload_at p ≡ payload) → terminal.of_reset content ≡ true
    → terminal.receive_of t p longest_packet ≡ (when number =? t.member.group.number then terminal.reset_step t content payload else terminal.refused t Refusal.OtherGroup)
unfolding terminal.receive_of judged terminal.read_step when◌then◌else◌
reset_is t p number content payload sound reads of =
    rw (called t (sound_member t sound), reads.0, reads.1, content_fields number content, reset_named t.member.group content of, of, sound, fields_group number content)

module _ (n resilience line : ℕ) (c : Course) (at : ℕ → Terminal) (packets : List (List ℕ)) (tk : ℕ → List Ordered) (sb : ℕ → List (List ℕ)) (v : Inv n resilience line c at packets tk sb)
    (i : ℕ) (b : i < n) (inside : is_in c.survivors i ≡ true) where
  abbrev group : description.Group
  group = group_in n resilience c

  abbrev cut : ℕ
  cut = v.cut

  abbrev t : Terminal
  t = at i

  abbrev h : Survivor n resilience c v.under cut (Low n resilience c cut at) i t
  h = (v.sits i b).survivor inside

  sound : Sound t
  sound = sound_of_lem t h.sound

  -- what is replied fits
  pub reply_fits : reply_number t ≤ largest_number
  unfolding reply_number
  reply_fits = when_elim (λ (x : ℕ). x ≤ largest_number) (serves t) (λ _. h.typed.sequencer.top) (λ _. reach_fits t.member h.typed.member.taken)

  module _ (at' : ℕ → Terminal) (rest : (j : ℕ) → j ≢ i → at' j ≡ at j) where
    module _ (r : Reset) (f : Bool) (here : at' i ≡ terminal.with_reset t r f) where
      abbrev t' : Terminal
      t' = terminal.with_reset t r f

      members_same : (j : ℕ) → member_of group cut (at' j) ≡ member_of group cut (at j)
      members_same j =
          eq_or j i (λ q. subst (λ (k : ℕ). member_of group cut (at' k) ≡ member_of group cut (at k)) (sym q) (ap (member_of group cut) here ∙ member_reset group cut t r f)) (λ q. ap (member_of group cut) (rest j q))

      view_same : sequencer_of group cut (at' c.elected) ≡ sequencer_of group cut (at c.elected)
      view_same =
          eq_or c.elected i (λ q. subst (λ (k : ℕ). sequencer_of group cut (at' k) ≡ sequencer_of group cut (at k)) (sym q) (ap (sequencer_of group cut) here ∙ sequencer_reset group cut t r f))
          (λ q. ap (sequencer_of group cut) (rest c.elected q))

      pub reset_next : (ps : List (List ℕ)) → terminal_sound t' ≡ true → length r.replies ≡ members_most → r.invited ≤ largest_number
          → (t.member.group.number ≡ c.number → c.attempt ≡ c.number → (r.replied ≡ false) × (i ≡ c.elected → f ≡ false)) → (t.member.group.number ≢ c.number → r.replied ≡ true) → (f ≡ false → t.frozen ≡ false)
          → (Busy c → t.reset.replied ≡ true → t.reset.attempt ≡ c.attempt → (r.replied ≡ true) × (r.attempt ≡ c.attempt))
          → (c.initiator ≡ i → Busy c → Open c at r) → (c.initiator ≡ i → c.attempt ≡ c.number → r.inviting ≡ false)
          → All (Covered c at' v.under cut (v.known ++ [])) ps → Inv n resilience line c at' (packets ++ ps) tk sb
      unfolding reply_number
      reset_next ps sound' replies' invited' calm' waits' frozen' answers opens shuts new =
          let goes : Goes c i t t' = record { group = λ _. refl; answers = λ _ d x y. let z = answers d x y in (z.0, z.1, refl) } in
          let ups : is_in c.survivors i ≡ true → reach_of (member_of group cut t) ≤ reach_of (member_of group cut t') = λ _. subst (λ (m : Member). reach_of (member_of group cut t) ≤ reach_of m) (sym (member_reset group cut t r f)) (le_refl _) in
          let low_up = low_goes n resilience line c at packets tk sb v i b t' at' here rest c.order [] (sym (append-nil c.order)) goes ups in
          keep n resilience line c at packets tk sb v i b t' at' here rest c.order [] (sym (append-nil c.order)) goes ups tk sb [] ps
          (subst (λ (l : List (List ℕ)). Seen group line (sequencer_of group cut (at' c.elected)) (λ j. member_of group cut (at' j)) c.order tk sb v.lost l) (sym (append-nil v.known))
          (subst (λ (x : Sequencer). Seen group line x (λ j. member_of group cut (at' j)) c.order tk sb v.lost v.known) (sym view_same)
          (same_seen group line _ (λ j. member_of group cut (at j)) (λ j. member_of group cut (at' j)) c.order tk tk sb sb v.lost v.known (λ j _. members_same j) (λ j _. refl) (λ j _. refl) v.seen)))
          (subst (λ (x : Sequencer). (sequencer_of group cut (at c.elected)).accepted.0 ≤ x.accepted.0) (sym view_same) (le_refl _))
          (record {
            lost = λ e. absurd (false≢true (sym e ∙ inside));
            old = (v.sits i b).old;
            only = (v.sits i b).only;
            survivor = λ _. reset_survivor n resilience c c v.under cut (Low n resilience c cut at) (Low n resilience c cut at') low_up i t r f refl refl refl (λ x g. g) h sound' replies' invited' calm' waits' frozen';
          })
          opens shuts tt new

    -- an invitation
    module _ (number sender attempt : ℕ) (good : GoodInvitation c at number sender attempt) (a-is : attempt ≡ c.attempt) (ours-is : number ≡ t.member.group.number) (fits : attempt ≤ largest_number) (number_fits : number ≤ largest_number) where
      -- who is in the group is invited to another
      away : t.member.group.number ≡ c.number → c.attempt ≡ c.number → ⊥
      away e d = good.over a-is d (ours-is ∙ e)

      own_byte : t.member.number.0 < 256
      own_byte = let z = h.itself in let y = v.seen.standing.n_most in omega arith

      abbrev reply : List ℕ
      reply = packet_of (fields_of t.member.group.number (Packet.Reply t.member.number attempt (record { 0 = reply_number t }))) []

      reply_covered : (r : Reset) → r.replied ≡ true → r.attempt ≡ attempt → at' i ≡ terminal.with_reset t r (terminal.freezes t) → Covered c at' v.under cut (v.known ++ []) reply
      unfolding fields_of reply_number
      reply_covered r replied attempt-of here =
          resets
          (record {
            number = t.member.group.number;
            content = Packet.Reply t.member.number attempt (record { 0 = reply_number t });
            payload = [];
            bytes_are = refl;
            allowed = (
              record { kind = omega arith; member = own_byte; group = h.typed.member.group; a = fits; b = reply_fits; c = omega arith },
              accepted _ [] longest_packet (record { enough = omega arith; fields = reply_fields t.member.group.number t.member.number attempt (record { 0 = reply_number t }); short = omega arith }),
            );
            says =
                record {
                  used = good.used;
                  answered = λ _ d.
                      subst (λ (k : ℕ). Answered c at' k (reply_number t)) (sym h.itself)
                      (record {
                        survives = inside;
                        group_is = ap (λ (x : Terminal). x.member.group.number) here ∙ sym ours-is ∙ good.group_is a-is d ∙ sym (initiator_group here);
                        replied = ap (λ (x : Terminal). x.reset.replied) here ∙ replied;
                        attempt_is = ap (λ (x : Terminal). x.reset.attempt) here ∙ attempt-of ∙ a-is;
                        number_is = ap reply_number here;
                      });
                };
          })
        where
          initiator_group : {r : Reset} {f : Bool} → at' i ≡ terminal.with_reset t r f → (at' c.initiator).member.group.number ≡ (at c.initiator).member.group.number
          initiator_group here =
              eq_or c.initiator i (λ q. subst (λ (k : ℕ). (at' k).member.group.number ≡ (at k).member.group.number) (sym q) (ap (λ (x : Terminal). x.member.group.number) here))
              (λ q. ap (λ (x : Terminal). x.member.group.number) (rest c.initiator q))

      replies_next : (r : Reset) → terminal_sound (terminal.with_reset t r (terminal.freezes t)) ≡ true → length r.replies ≡ members_most → r.invited ≤ largest_number → r.replied ≡ true → r.attempt ≡ attempt
          → (c.initiator ≡ i → Busy c → Open c at r) → (c.initiator ≡ i → c.attempt ≡ c.number → r.inviting ≡ false) → at' i ≡ terminal.with_reset t r (terminal.freezes t)
          → Inv n resilience line c at' (packets ++ (reply ∷ [])) tk sb
      replies_next r sound' replies' invited' replied attempt-of opens shuts here =
          reset_next r (terminal.freezes t) here (reply ∷ []) sound' replies' invited' (λ e d. absurd (away e d)) (λ _. replied) (freezes_not t) (λ _ _ _. (replied, attempt-of ∙ a-is)) opens shuts
          (reply_covered r replied attempt-of here, tt)

      pub invited_next : at' i ≡ terminal.with_reset t (when sender =? t.member.number.0 then terminal.replied t attempt else terminal.uninvited (terminal.replied t attempt)) (terminal.freezes t)
          → Inv n resilience line c at' (packets ++ (reply ∷ [])) tk sb
      invited_next =
          when_elim (λ (r : Reset). at' i ≡ terminal.with_reset t r (terminal.freezes t) → Inv n resilience line c at' (packets ++ (reply ∷ [])) tk sb) (sender =? t.member.number.0)
          (λ _.
          replies_next (terminal.replied t attempt) (of_sound _ (replied_sound t sound attempt)) h.typed.replies h.invited refl refl
          (λ e d.
          let o : Open c at t.reset = subst (λ (k : ℕ). Open c at (at k).reset) e (v.opened d) in
          record { inviting = o.inviting; invited_is = o.invited_is; itself = o.itself; answered = o.answered })
          (λ e d. subst (λ (k : ℕ). (at k).reset.inviting ≡ false) e (v.shut d)))
          (λ q.
          replies_next (terminal.uninvited (terminal.replied t attempt)) (of_sound _ (closed_sound t sound attempt)) (length-replicate {A = ℕ} members_most 0) (omega arith) refl refl
          (λ e d. absurd (eqb-false sender t.member.number.0 q (good.sender_is a-is d ∙ e ∙ sym h.itself))) (λ _ _. refl))

    -- a reply
    module _ (sender : MemberNumber) (attempt number : ℕ) (good : GoodReply c at sender.0 attempt number) (a-is : attempt ≡ c.attempt) (less : sender.0 < t.member.group.n) (inviting : t.reset.inviting ≡ true) where
      abbrev counted_in : Reset
      counted_in =
          record {
            replied = t.reset.replied;
            attempt = t.reset.attempt;
            number = t.reset.number;
            inviting = t.reset.inviting;
            invited = t.reset.invited;
            repliers = bit_or t.reset.repliers (only_of sender);
            replies = set t.reset.replies sender.0 number;
          }

      counts_next : (r : Reset) → terminal_sound (terminal.with_reset t r t.frozen) ≡ true → length r.replies ≡ members_most → r.invited ≤ largest_number → r.replied ≡ t.reset.replied → r.attempt ≡ t.reset.attempt
          → r.inviting ≡ t.reset.inviting → (c.initiator ≡ i → Busy c → Open c at r) → at' i ≡ terminal.with_reset t r t.frozen → Inv n resilience line c at' (packets ++ []) tk sb
      counts_next r sound' replies' invited' er ea ei opens here =
          reset_next r t.frozen here [] sound' replies' invited' (λ e d. (er ∙ h.calm e d, λ q. h.wakes q e d)) (λ e. er ∙ h.waits e) (λ q. q) (λ _ x y. (er ∙ x, ea ∙ y)) opens
          (λ e d. ei ∙ subst (λ (k : ℕ). (at k).reset.inviting ≡ false) e (v.shut d)) tt

      own_open : c.initiator ≡ i → Busy c → Open c at t.reset
      own_open e d = subst (λ (k : ℕ). Open c at (at k).reset) e (v.opened d)

      answered_more : is_in t.reset.repliers sender.0 ≡ false → Busy c → Open c at t.reset → (j : ℕ) → (is_in t.reset.repliers j ≡ true) ⊎ (is_in (2 ^ sender.0) j ≡ true)
          → Answered c at j (get_or (set t.reset.replies sender.0 number) j 0)
      answered_more new d o j (inl e) =
          let apart : j ≢ sender.0 = λ q. false≢true (sym new ∙ subst (λ (k : ℕ). is_in t.reset.repliers k ≡ true) q e) in
          subst (Answered c at j) (sym (get_or-set_other t.reset.replies sender.0 j number 0 apart)) (o.answered j e)
      answered_more new d o j (inr e) =
          let q : j ≡ sender.0 = in_only sender.0 j e in
          let most = v.seen.standing.n_most in
          let long = h.typed.replies in
          let size = h.size in
          let is : number ≡ get_or (set t.reset.replies sender.0 number) sender.0 0 = sym (get_or-set_same t.reset.replies sender.0 number 0 (omega arith)) in
          subst (λ (k : ℕ). Answered c at k (get_or (set t.reset.replies sender.0 number) k 0)) (sym q) (subst (Answered c at sender.0) is (good.answered a-is d))

      pub counted_next : at' i ≡ terminal.with_reset t (terminal.with_reply t.reset sender number) t.frozen → Inv n resilience line c at' (packets ++ []) tk sb
      unfolding terminal.with_reply
      counted_next =
          let s = of_sound _ (reply_sound_lem t sound sender number less inviting h.typed.replies) in
          when_elim (λ (r : Reset). terminal_sound (terminal.with_reset t r t.frozen) ≡ true → at' i ≡ terminal.with_reset t r t.frozen → Inv n resilience line c at' (packets ++ []) tk sb) (is_in t.reset.repliers sender.0)
          (λ _ s here. counts_next t.reset s h.typed.replies h.invited refl refl refl own_open here)
          (λ new s here.
          counts_next counted_in s (length-set t.reset.replies sender.0 number ∙ h.typed.replies) h.invited refl refl refl
          (λ e d.
          let o = own_open e d in
          record {
            inviting = o.inviting;
            invited_is = o.invited_is;
            itself = or_in t.reset.repliers (only_of sender) c.initiator o.itself;
            answered = λ j z. answered_more new d o j (in_or t.reset.repliers (2 ^ sender.0) j z);
          }) here)
          s
