-- A survivor's submit, repeat, status, take, and the packets of the group made last that it gets, in the world. Assumes nothing.
use Rattle.std.specs.Prelude.{Ok}
use mathlib.Core.Path.{◌≡◌, refl, sym, ap, ◌∙◌, subst}
use mathlib.Core.Logic.{◌≢◌}
use mathlib.Core.Bool.{Bool, true, false}
use mathlib.Core.Option.{some}
use mathlib.Core.List.{List, [], ◌∷◌, ◌++◌}
use Prim.Native.Nat.{ℕ, suc, ◌+◌, ◌≤◌, ◌<◌}
use native.Mathlib.Nat.{le_refl}
use native.Mathlib.Omega.{arith}
use borrow.Author.Tests.{ltb-true}
use lib.ListN.{length, get_elem?, length-set}
use Rattle.group.proofs.Choice.{both_first}
use Rattle.group.proofs.Lists.{when_elim, eq_or, at as nth, All, all_map, all_get}
use Rattle.group.specs.Choice.{when◌then◌else◌, ◌and◌}
use Rattle.group.specs.Limits.{places_most, members_most, held_most, longest_packet, largest_number}
use Rattle.group.specs.Members.{is_in}
use Rattle.group.specs.Question.{judged}
use Rattle.group.specs.declared.Group as description
use Rattle.group.specs.declared.Refusal.{Refusal}
use Rattle.group.specs.declared.SequenceNumber.{SequenceNumber}
use Rattle.history.proofs.Soundness.{taken_in}
use Rattle.history.specs.State as history
use Rattle.message.proofs.Owning.{Owns}
use Rattle.message.specs.Message.{Message}
use Rattle.message.specs.Order.{Ordered}
use Rattle.member.proofs.Invariant as memberInvariant
use Rattle.member.proofs.Invariant.{MemberGood}
use Rattle.member.proofs.Laws as memberProofs
use Rattle.member.specs.Calls as member
use Rattle.member.specs.Laws as memberLaws
use Rattle.member.specs.Order.{took_by, accepted_by}
use Rattle.member.specs.Sound.{sound_of as memberSoundOf}
use Rattle.member.specs.State.{Member, reach_of}
use Rattle.member.specs.declared.Answer.{Answer}
use Rattle.packet.proofs.Facts.{Voice, KnownBy, SaysBy, Known}
use Rattle.packet.proofs.Laws.{read_written, content_fields}
use Rattle.packet.proofs.RoundTrip.{header_back}
use Rattle.packet.specs.Packet.{header_of, read_of, content_of, fields_of, from_elected, written}
use Rattle.packet.specs.declared.Header.{Header}
use Rattle.packet.specs.declared.Packet.{Packet}
use Rattle.packet.specs.Answers.{Reading}
use Rattle.sequencer.proofs.Invariant.{facts_of}
use Rattle.sequencer.specs.State.{Sequencer}
use Rattle.window.proofs.Row.{le_larger}
use Rattle.window.specs.Places as window
use Rattle.recovery.proofs.Beginning.{floor_reach, reach_floor}
use Rattle.recovery.proofs.Keeping.{sound_of_lem}
use Rattle.recovery.proofs.Kept.{counted_length, read_past, read_counts}
use Rattle.recovery.proofs.Laws as terminalProofs
use Rattle.recovery.proofs.Laws.{Still, submit_still}
use Rattle.recovery.specs.Begin.{elected_sequencer, member_in}
use Rattle.recovery.specs.Calls as terminal
use Rattle.recovery.specs.Sound.{member_sound, terminal_sound}
use Rattle.recovery.specs.State.{Kept, Terminal, serves}
use Rattle.reset.specs.Course.{Course}
use Rattle.reset.proofs.Acting as acting
use Rattle.reset.proofs.Begun.{Same, from_same, elected_member, elected_own, still_same}
use Rattle.reset.proofs.Begun as begun
use Rattle.reset.proofs.Carried.{sound_member, called, submit_is, repeat_is, status_is}
use Rattle.reset.proofs.Cutting.{dropped_same}
use Rattle.reset.proofs.Same.{known_plain}
use Rattle.reset.proofs.Invariant.{Foreign, group_in, Low, Survivor, Covered, ours, elsewhere, FloorLow, Inv}
use Rattle.reset.proofs.Remembering.{Remembers, message_is, took_remembers, read_remembers}
use Rattle.reset.proofs.Seen.{voices}
use Rattle.reset.proofs.View.{member_of, sequencer_of, member_here, member_there, sequencer_there}
use Rattle.reset.proofs.Working.{Kin, stands, member_next}
use Rattle.reset.proofs.Writing.{reads_back, Wrote, wrote_reads, submit_writes, repeat_writes, status_writes, receive_stays}

-- what is appended is there
get_behind : {A : Type 0} (l r : List A) (k : ℕ) → get_elem? (l ++ r) (length l + k) ≡ get_elem? r k
get_behind [] r k = let z : 0 + k ≡ k = omega arith in ap (get_elem? r) z
get_behind (x ∷ l) r k = let z : length (x ∷ l) + k ≡ suc (length l + k) = omega arith in ap (get_elem? (x ∷ (l ++ r))) z ∙ get_behind l r k

all_tab : {A : Type 0} (P : A → Type 0) (l : List A) → ((k : ℕ) (x : A) → get_elem? l k ≡ some x → P x) → All P l
all_tab P [] h = tt
all_tab P (x ∷ l) h = (h 0 x refl, all_tab P l (λ k y e. h (suc k) y e))

pub news_covered : (c : Course) (at : ℕ → Terminal) (under cut : ℕ) (known news : List (List ℕ)) → All (Covered c at under cut (known ++ news)) news
news_covered c at under cut known news = all_tab (Covered c at under cut (known ++ news)) news (λ k x e. ours (length known + k) (get_behind known news k ∙ e))

-- packets of another number
pub wrote_covered : (c : Course) (at : ℕ → Terminal) (under cut : ℕ) (known ps : List (List ℕ)) (number : ℕ) → number ≤ largest_number → Foreign c number → All (Wrote number) ps → All (Covered c at under cut known) ps
wrote_covered c at under cut known ps number fits f w = all_map _ _ (λ p x. elsewhere (λ h e. let r = wrote_reads number p fits x h e in (r.1, subst (Foreign c) (sym r.0) f))) ps w

-- a member says no floor
by_floor : (needed i : ℕ) (voice : Voice) (content : Packet) (payload : List ℕ) → SaysBy needed i voice content payload → terminal.floor_in content ≡ 0
unfolding terminal.floor_in
by_floor needed i voice (Packet.Request sender taken count) payload h = refl
by_floor needed i voice (Packet.Broadcast originator number count floor) payload h = absurd h
by_floor needed i voice (Packet.Gap sender taken first last) payload h = refl
by_floor needed i voice (Packet.Status sender taken) payload h = refl
by_floor needed i voice (Packet.Poll elected top floor) payload h = absurd h
by_floor needed i voice (Packet.Offer originator number count floor) payload h = absurd h
by_floor needed i voice (Packet.Confirm sender number) payload h = refl
by_floor needed i voice (Packet.Accept elected number) payload h = refl
by_floor needed i voice (Packet.Invitation sender attempt) payload h = refl
by_floor needed i voice (Packet.Reply sender attempt number) payload h = refl
by_floor needed i voice (Packet.Result sender attempt elected number) payload h = refl

known_floor : (g needed i : ℕ) (voice : Voice) (low : ℕ → Type 0) → low 0 → (p : List ℕ) → KnownBy g needed i voice p → FloorLow low p
known_floor g needed i voice low zero-low p k h e =
    let f : Header = fields_of g k.content in
    let same : h ≡ f = reads_back f k.payload p k.bytes_are k.allowed h e in
    let floor : terminal.floor_in (content_of h) ≡ 0 = ap (λ (x : Header). terminal.floor_in (content_of x)) same ∙ ap terminal.floor_in (content_fields g k.content) ∙ by_floor needed i voice k.content k.payload k.says in
    subst low (sym floor) zero-low

-- without the result, what the terminal begins with stays
serves_same : (t t' : Terminal) → t'.sequencing ≡ t.sequencing → t'.sequencer ≡ t.sequencer → t'.member.group ≡ t.member.group → serves t' ≡ serves t
serves_same t t' a b e = rw (a, b, e)

elected_same : (t : Terminal) (m' : Member) (kept' : Kept) → m'.group ≡ t.member.group → terminal_sound t ≡ true → length t.kept.counts ≡ members_most → Same t (terminal.with_member t m' kept')
    → (group : description.Group) (cut : ℕ) → elected_sequencer (terminal.with_member t m' kept') group cut ≡ elected_sequencer t group cut
elected_same t m' kept' kin sound long same group cut = go (serves t) refl
  where
    t' : Terminal
    t' = terminal.with_member t m' kept'

    served : serves (terminal.with_member t m' kept') ≡ serves t
    served = serves_same t (terminal.with_member t m' kept') refl refl kin

    go : (b : Bool) → serves t ≡ b → elected_sequencer (terminal.with_member t m' kept') group cut ≡ elected_sequencer t group cut
    go true e = elected_own (terminal.with_member t m' kept') group cut (served ∙ e) ∙ sym (elected_own t group cut e)
    go false e =
        let s = sound_of_lem t sound in
        elected_member (terminal.with_member t m' kept') group cut (served ∙ e)
        ∙ from_same t (terminal.with_member t m' kept') same (floor_reach t s.member s.kept long) (reach_floor t s.member s.kept long) group cut
        ∙ sym (elected_member t group cut e)

module _ (n resilience line : ℕ) (c : Course) (at : ℕ → Terminal) (packets : List (List ℕ)) (tk : ℕ → List Ordered) (sb : ℕ → List (List ℕ)) (v : Inv n resilience line c at packets tk sb)
    (i : ℕ) (b : i < n) (inside : is_in c.survivors i ≡ true) where
  abbrev group : description.Group
  group = group_in n resilience c

  abbrev cut : ℕ
  cut = v.cut

  abbrev t : Terminal
  t = at i

  abbrev view : Sequencer
  view = sequencer_of group cut (at c.elected)

  abbrev h : Survivor n resilience c v.under cut (Low n resilience c cut at) i t
  h = stands n resilience line c at packets tk sb v i b inside

  abbrev Here : Type 0
  Here = t.member.group.number ≡ c.number

  abbrev There : Type 0
  There = t.member.group.number ≢ c.number

  pub member_terminal : memberInvariant.Terminal group i (taken_in view.acknowledgements i) view.accepted.0 (member_of group cut t) c.order (tk i) (sb i)
  member_terminal = v.seen.terminal i inside

  abbrev Owes : Terminal → Answer → List Ordered → List (List ℕ) → List (List ℕ) → Type 0
  Owes t' answer took submitted news =
      MemberGood group i (taken_in view.acknowledgements i) view.accepted.0 c.order (sb i) (member_of group cut t) took submitted news (record { member = member_of group cut t'; answer = answer; bytes = [] })

  pub member_sound_lem : member_sound t ≡ true
  member_sound_lem = sound_member t h.sound

  number_fits : t.member.group.number ≤ largest_number
  number_fits = h.typed.member.group

  low_zero : Low n resilience c cut at 0
  low_zero j e = omega arith

  module _ (at' : ℕ → Terminal) (rest : (j : ℕ) → j ≢ i → at' j ≡ at j) (tk' : ℕ → List Ordered) (sb' : ℕ → List (List ℕ)) (other-tk : (j : ℕ) → j ≢ i → tk' j ≡ tk j) (other-sb : (j : ℕ) → j ≢ i → sb' j ≡ sb j) where
    -- a call with the result, or without
    call_next : (m' : Member) (kept' : Kept) (answer : Answer) (ps : List (List ℕ)) → at' i ≡ terminal.with_member t m' kept' → Kin t.member m' → terminal_sound (terminal.with_member t m' kept') ≡ true → memberLaws.Typed m'
        → length kept'.past ≡ places_most → length kept'.counts ≡ members_most → Remembers m'.taken.0 kept' c.order → Low n resilience c cut at kept'.read.0
        → (Here → Owes (terminal.with_member t m' kept') answer (tk' i) (sb' i) ps) → (There → Owes (terminal.with_member t m' kept') answer (tk' i) (sb' i) []) → (There → Same t (terminal.with_member t m' kept'))
        → All (Wrote t.member.group.number) ps → Inv n resilience line c at' (packets ++ ps) tk' sb'
    call_next m' kept' answer ps here kin sound' typed' past' counts' remembers' read' owes_here owes_there same wrote =
        eq_or t.member.group.number c.number
        (λ e.
        let owes = owes_here e in
        member_next n resilience line c at packets tk sb v i b inside at' m' kept' here rest kin sound' typed' past' counts' remembers' read' tk' sb' other-tk other-sb answer ps ps owes
        (λ q. absurd (q e)) (λ _ q. absurd (q e)) (all_map _ _ (λ p k. known_floor group.number _ i _ (Low n resilience c cut at) low_zero p k) ps owes.known) (news_covered c at' v.under cut v.known ps))
        (λ e.
        let x = same e in
        let r : reach_of m' ≤ reach_of t.member = (let z = x.reach in omega arith) in
        member_next n resilience line c at packets tk sb v i b inside at' m' kept' here rest kin sound' typed' past' counts' remembers' read' tk' sb' other-tk other-sb answer [] ps (owes_there e)
        (λ _. r)
        (λ _ q.
        sequencer_there group cut (terminal.with_member t m' kept') (λ z. q (sym (ap (λ (y : description.Group). y.number) kin.group) ∙ z))
        ∙ elected_same t m' kept' kin.group h.sound h.typed.counts x group cut ∙ sym (sequencer_there group cut t q))
        tt (wrote_covered c at' v.under cut (v.known ++ []) ps t.member.group.number number_fits (h.foreign e) wrote))

    -- a call that leaves what is taken and held
    still_next : (x : terminal.Outcome) (o : member.Outcome) → x ≡ terminal.carried t t.kept o → at' i ≡ x.terminal → Still t.member o.member → terminal_sound x.terminal ≡ true → memberLaws.Typed o.member
        → (Here → Owes x.terminal x.answer (tk' i) (sb' i) (written x.bytes)) → (There → Owes x.terminal x.answer (tk' i) (sb' i) []) → All (Wrote t.member.group.number) (written x.bytes)
        → Inv n resilience line c at' (packets ++ written x.bytes) tk' sb'
    still_next x o is here still sound' typed' owes_here owes_there wrote =
        let P : terminal.Outcome → Type 0 = λ y. at' i ≡ y.terminal → terminal_sound y.terminal ≡ true → (Here → Owes y.terminal y.answer (tk' i) (sb' i) (written y.bytes))
        → (There → Owes y.terminal y.answer (tk' i) (sb' i) []) → All (Wrote t.member.group.number) (written y.bytes) → Inv n resilience line c at' (packets ++ written y.bytes) tk' sb' in
        subst P (sym is)
        (λ here sound' owes_here owes_there wrote.
        call_next o.member t.kept o.answer (written o.bytes) here (record { group = still.group; number = still.number }) sound' typed' h.typed.past h.typed.counts
        (subst (λ (k : SequenceNumber). Remembers k.0 t.kept c.order) (sym still.taken) h.remembers) h.read_low owes_here owes_there (λ _. still_same t o.member still) wrote)
        here sound' owes_here owes_there wrote

    pub submit_next : (payload : List ℕ) → at' i ≡ (terminal.submit_of t payload longest_packet).terminal → tk' i ≡ tk i → sb' i ≡ sb i ++ accepted_by (terminal.submit_of t payload longest_packet).answer payload
        → Inv n resilience line c at' (packets ++ written (terminal.submit_of t payload longest_packet).bytes) tk' sb'
    submit_next payload here et es =
        let x = terminal.submit_of t payload longest_packet in
        still_next x (member.submit_of t.member payload longest_packet) (submit_is t member_sound_lem payload) here (submit_still t.member payload longest_packet)
        (terminalProofs.submit_keeps t payload longest_packet h.typed h.sound) (memberProofs.submit_keeps t.member payload longest_packet h.typed.member).0.typed
        (λ e. rw (et, es) (acting.submit_here group cut i (taken_in view.acknowledgements i) view.accepted.0 c.order (tk i) (sb i) t member_sound_lem h.typed.member.held member_terminal e payload))
        (λ e. rw (et, es) (acting.submit_there group cut i (taken_in view.acknowledgements i) view.accepted.0 c.order (tk i) (sb i) t member_sound_lem h.typed.member.held member_terminal e payload))
        (submit_writes t payload longest_packet)

    pub repeat_next : at' i ≡ (terminal.repeat_of t longest_packet).terminal → tk' i ≡ tk i → sb' i ≡ sb i → Inv n resilience line c at' (packets ++ written (terminal.repeat_of t longest_packet).bytes) tk' sb'
    repeat_next here et es =
        let x = terminal.repeat_of t longest_packet in
        still_next x (member.repeat_of t.member longest_packet) (repeat_is t member_sound_lem) here (terminalProofs.repeat_still t.member longest_packet)
        (terminalProofs.repeat_keeps t longest_packet h.typed h.sound) (memberProofs.repeat_keeps t.member longest_packet h.typed.member).0.typed
        (λ e. rw (et, es) (acting.repeat_here group cut i (taken_in view.acknowledgements i) view.accepted.0 c.order (tk i) (sb i) t member_sound_lem h.typed.member.held member_terminal e))
        (λ e. rw (et, es) (acting.repeat_there group cut i (taken_in view.acknowledgements i) view.accepted.0 c.order (tk i) (sb i) t member_sound_lem h.typed.member.held member_terminal e))
        (repeat_writes t longest_packet)

    pub status_next : at' i ≡ (terminal.status_of t longest_packet).terminal → tk' i ≡ tk i → sb' i ≡ sb i → Inv n resilience line c at' (packets ++ written (terminal.status_of t longest_packet).bytes) tk' sb'
    status_next here et es =
        let x = terminal.status_of t longest_packet in
        still_next x (member.status_of t.member longest_packet) (status_is t member_sound_lem) here (terminalProofs.status_still t.member longest_packet)
        (terminalProofs.status_keeps t longest_packet h.typed h.sound) (memberProofs.status_keeps t.member longest_packet h.typed.member).0.typed
        (λ e. rw (et, es) (acting.status_here group cut i (taken_in view.acknowledgements i) view.accepted.0 c.order (tk i) (sb i) t member_sound_lem h.typed.member.held member_terminal e))
        (λ e. rw (et, es) (acting.status_there group cut i (taken_in view.acknowledgements i) view.accepted.0 c.order (tk i) (sb i) t member_sound_lem h.typed.member.held member_terminal e))
        (status_writes t longest_packet)

    -- a take
    abbrev m : Member
    m = t.member

    abbrev next : ℕ
    next = m.taken.0 + 1

    abbrev message : Message
    message = window.message_at m.held next

    own_sound : memberSoundOf m ≡ true
    unfolding member_sound
    own_sound = both_first (memberSoundOf m) _ member_sound_lem

    took_is : member.is_ready m next ≡ true → (terminal.take_of t longest_packet).terminal ≡ terminal.with_member t (member.with_taken m message) (terminal.kept_took t.kept next message)
    unfolding terminal.take_of judged member.take_of member.call_verdict member.took_of when◌then◌else◌
    took_is r = rw (called t member_sound_lem, own_sound, r)

    none_is : member.is_ready m next ≡ false → (terminal.take_of t longest_packet).terminal ≡ t
    unfolding terminal.take_of judged member.take_of member.call_verdict member.answered when◌then◌else◌
    none_is r = rw (called t member_sound_lem, own_sound, r)

    took_member : member.is_ready m next ≡ true → (member.take_of m longest_packet).member ≡ member.with_taken m message
    unfolding judged member.take_of member.call_verdict member.took_of when◌then◌else◌
    took_member r = rw (own_sound, r)

    ready_held : member.is_ready m next ≡ true → 1 ≤ message.count
    unfolding member.is_ready
    ready_held r = ltb-true 0 message.count (both_first (window.is_held m.held next) _ r)

    pub ready_reached : member.is_ready m next ≡ true → next ≤ reach_of m
    ready_reached r = begun.next_reached t h.typed.member (sound_of_lem t h.sound).member h.typed.past (ready_held r)

    ready_near : There → member.is_ready m next ≡ true → next ≤ cut
    ready_near e r = let x = ready_reached r in let y = h.reach_le in let z = h.reply_le e in omega arith

    -- it is the order's next
    next_is : member.is_ready m next ≡ true → (x : Ordered) × (nth c.order next ≡ some x) × message_is message x
    next_is r =
        eq_or m.group.number c.number
        (λ e. subst (λ (y : Member). (k : ℕ) → y.taken.0 < k → k ≤ y.taken.0 + held_most → 1 ≤ (window.message_at y.held k).count → (x : Ordered) × (nth c.order k ≡ some x) × message_is (window.message_at y.held k) x)
        (member_here group cut t e) member_terminal.content.held_is next (omega arith) (omega arith) (ready_held r))
        (λ e.
        let near = ready_near e r in
        let same : window.message_at (member_in m group cut).held next ≡ message = dropped_same m.held cut m.taken.0 h.typed.member.held held_most next (le_refl held_most) (omega arith) (omega arith) near in
        let x = subst (λ (y : Member). (k : ℕ) → y.taken.0 < k → k ≤ y.taken.0 + held_most → 1 ≤ (window.message_at y.held k).count → (x : Ordered) × (nth c.order k ≡ some x) × message_is (window.message_at y.held k) x)
        (member_there group cut t e) member_terminal.content.held_is next (omega arith) (omega arith) (subst (λ (z : Message). 1 ≤ z.count) (sym same) (ready_held r)) in
        (x.0, x.1, sym same ∙ x.2))

    -- whose messages are whose first submissions
    owned : (o : ℕ) → o < n → (submitted : List (List ℕ)) × Owns o c.order submitted
    owned o less = go (is_in c.survivors o) refl
      where
        go : (x : Bool) → is_in c.survivors o ≡ x → (submitted : List (List ℕ)) × Owns o c.order submitted
        go true e = (sb o, (v.seen.terminal o e).content.own_is)
        go false e = (v.lost o, v.seen.owns o less e)

    took_kept : member.is_ready m next ≡ true → Remembers (member.with_taken m message).taken.0 (terminal.kept_took t.kept next message) c.order
    unfolding member.with_taken
    took_kept r =
        let x = next_is r in
        let less = v.seen.sequencer.originator_ok next x.0 x.1 in
        let most = v.seen.standing.n_most in
        let size = h.typed.counts in
        let own = owned x.0.originator less in
        took_remembers m.taken.0 t.kept c.order h.remembers message x.0 own.0 h.typed.past (omega arith) x.1 x.2 own.1

    took_sizes : (length (terminal.kept_took t.kept next message).past ≡ places_most) × (length (terminal.kept_took t.kept next message).counts ≡ members_most)
    unfolding terminal.kept_took
    took_sizes = (length-set t.kept.past (history.place_of next) message ∙ h.typed.past, counted_length t.kept.counts message ∙ h.typed.counts)

    took_read : Low n resilience c cut at (terminal.kept_took t.kept next message).read.0
    unfolding terminal.kept_took
    took_read = h.read_low

    taken_kin : Kin m (member.with_taken m message)
    unfolding member.with_taken
    taken_kin = record { group = refl; number = refl }

    taken_typed : member.is_ready m next ≡ true → memberLaws.Typed (member.with_taken m message)
    taken_typed r = subst memberLaws.Typed (took_member r) (memberProofs.take_keeps m longest_packet h.typed.member).0.typed

    take_sound : terminal_sound (terminal.take_of t longest_packet).terminal ≡ true
    take_sound = terminalProofs.take_keeps t longest_packet h.typed h.sound

    pub take_next : at' i ≡ (terminal.take_of t longest_packet).terminal → tk' i ≡ tk i ++ took_by (terminal.take_of t longest_packet).answer (terminal.take_of t longest_packet).bytes → sb' i ≡ sb i
        → Inv n resilience line c at' (packets ++ []) tk' sb'
    take_next here et es = go (member.is_ready m next) refl
      where
        x : terminal.Outcome
        x = terminal.take_of t longest_packet

        numbered : (k : ℕ) (y : Ordered) → nth c.order k ≡ some y → y.number ≡ k
        numbered = v.seen.sequencer.number_is

        owes_here : Here → Owes (terminal.take_of t longest_packet).terminal (terminal.take_of t longest_packet).answer (tk' i) (sb' i) []
        owes_here e =
            rw (et, es) (acting.take_here group cut i (taken_in view.acknowledgements i) view.accepted.0 c.order (tk i) (sb i) t member_sound_lem h.typed.member.held member_terminal e v.seen.sequencer.number_is)

        owes_there : There → Owes (terminal.take_of t longest_packet).terminal (terminal.take_of t longest_packet).answer (tk' i) (sb' i) []
        owes_there e =
            rw (et, es)
            (acting.take_there group cut i (taken_in view.acknowledgements i) view.accepted.0 c.order (tk i) (sb i) t member_sound_lem h.typed.member.held member_terminal e v.seen.sequencer.number_is (ready_near e))

        go : (r : Bool) → member.is_ready t.member (t.member.taken.0 + 1) ≡ r → Inv n resilience line c at' (packets ++ []) tk' sb'
        go true r =
            let is = took_is r in
            call_next (member.with_taken m message) (terminal.kept_took t.kept next message) (terminal.take_of t longest_packet).answer [] (here ∙ is) taken_kin (subst (λ (y : Terminal). terminal_sound y ≡ true) is take_sound) (taken_typed r)
            took_sizes.0 took_sizes.1 (took_kept r) took_read (λ e. subst (λ (y : Terminal). Owes y (terminal.take_of t longest_packet).answer (tk' i) (sb' i) []) is (owes_here e))
            (λ e. subst (λ (y : Terminal). Owes y (terminal.take_of t longest_packet).answer (tk' i) (sb' i) []) is (owes_there e))
            (λ _. begun.taken_same t h.typed.member (sound_of_lem t h.sound).member h.typed.past (ready_held r)) tt
        go false r =
            let is = none_is r in
            call_next m t.kept (terminal.take_of t longest_packet).answer [] (here ∙ is) (record { group = refl; number = refl }) h.sound h.typed.member h.typed.past h.typed.counts h.remembers h.read_low
            (λ e. subst (λ (y : Terminal). Owes y (terminal.take_of t longest_packet).answer (tk' i) (sb' i) []) is (owes_here e))
            (λ e. subst (λ (y : Terminal). Owes y (terminal.take_of t longest_packet).answer (tk' i) (sb' i) []) is (owes_there e))
            (λ _. record { read = refl; reach = refl; counts = refl; message = λ s a b. refl }) tt

    -- a packet of the group
    module _ (e : Here) (p : List ℕ) (index : ℕ) (there : get_elem? v.known index ≡ some p) (et : tk' i ≡ tk i) (es : sb' i ≡ sb i) where
      abbrev voice : ℕ → Voice
      voice = voices group line (λ j. member_of group cut (at j)) sb v.lost

      pub known_is : Known group.number (facts_of group c.order view.accepted.0 voice) p
      known_is = all_get _ v.known index v.seen.packets_known there

      abbrev received : terminal.Outcome
      received = terminal.receive_of t p longest_packet

      abbrev After : terminal.Outcome → Type 0
      After x = at' i ≡ x.terminal → terminal_sound x.terminal ≡ true → Owes x.terminal x.answer (tk' i) (sb' i) (written x.bytes) → All (Wrote m.group.number) (written x.bytes)
          → Inv n resilience line c at' (packets ++ written x.bytes) tk' sb'

      reads : read_of p ≡ Ok (fields_of group.number known_is.content)
      reads = ap read_of known_is.bytes_are ∙ (read_written (fields_of group.number known_is.content) known_is.payload known_is.allowed).0

      refused_after : (refusal : Refusal) → After (terminal.refused t refusal)
      unfolding terminal.refused written
      refused_after refusal here sound' owes wrote =
          call_next m t.kept (Answer.Refused refusal) [] here (record { group = refl; number = refl }) h.sound h.typed.member h.typed.past h.typed.counts h.remembers h.read_low
          (λ _. owes) (λ q. absurd (q e)) (λ q. absurd (q e)) tt

      floor_is : Low n resilience c cut at (terminal.floor_in known_is.content)
      floor_is =
          subst (λ (x : Packet). Low n resilience c cut at (terminal.floor_in x)) (content_fields group.number known_is.content)
          (all_get _ v.known index v.floors there (fields_of group.number known_is.content) reads)

      read_after_lem : (answer : Answer) → Low n resilience c cut at (terminal.kept_read t.kept answer (terminal.floor_in known_is.content)).read.0
      unfolding terminal.kept_read
      read_after_lem answer =
          when_elim (λ (x : Kept). Low n resilience c cut at x.read.0) (terminal.is_refusal answer) (λ _. h.read_low)
          (λ _ j q. le_larger t.kept.read.0 (terminal.floor_in known_is.content) _ (h.read_low j q) (floor_is j q))

      heard_after : After (terminal.heard_of t known_is.content known_is.payload)
      unfolding terminal.heard_of
      heard_after here sound' owes wrote =
          let content = known_is.content in
          let o = member.content_step m content known_is.payload in
          let frame = terminalProofs.content_frame m content known_is.payload in
          let kept' : Kept = terminal.kept_read t.kept o.answer (terminal.floor_in content) in
          let same : member_of group cut (terminal.with_member t o.member kept') ≡ o.member = member_here group cut (terminal.with_member t o.member kept') (ap (λ (y : description.Group). y.number) frame.group ∙ e) in
          call_next o.member kept' o.answer (written o.bytes) here (record { group = frame.group; number = frame.number }) sound'
          (subst memberLaws.Typed same owes.terminal.content.typed) (ap length (read_past t.kept o.answer (terminal.floor_in content)) ∙ h.typed.past) (ap length (read_counts t.kept o.answer (terminal.floor_in content)) ∙ h.typed.counts)
          (subst (λ (k : SequenceNumber). Remembers k.0 kept' c.order) (sym frame.taken) (read_remembers m.taken.0 t.kept c.order h.remembers o.answer (terminal.floor_in content)))
          (read_after_lem o.answer) (λ _. owes) (λ q. absurd (q e)) (λ q. absurd (q e)) wrote

      fits : (header_of p).a ≤ largest_number
      fits =
          let is : header_of p ≡ fields_of group.number known_is.content = ap header_of known_is.bytes_are ∙ header_back (fields_of group.number known_is.content) known_is.payload known_is.allowed.0 in
          subst (λ (x : Header). x.a ≤ largest_number) (sym is) known_is.allowed.0.a

      plain : (x : Header) → read_of p ≡ Ok x → terminal.of_reset (content_of x) ≡ false
      plain x q =
          let same : x ≡ fields_of group.number known_is.content = reads_back _ known_is.payload p known_is.bytes_are known_is.allowed x q in
          ap (λ (y : Header). terminal.of_reset (content_of y)) same ∙ ap terminal.of_reset (content_fields group.number known_is.content) ∙ known_plain _ known_is.content known_is.payload known_is.says

      pub receive_next : at' i ≡ received.terminal → Inv n resilience line c at' (packets ++ written received.bytes) tk' sb'
      receive_next here =
          let is = acting.received_is group cut i (taken_in view.acknowledgements i) view.accepted.0 c.order (tk i) (sb i) t member_sound_lem h.typed.member.held member_terminal e voice p known_is in
          let owes = acting.receive_here group cut i (taken_in view.acknowledgements i) view.accepted.0 c.order (tk i) (sb i) t member_sound_lem h.typed.member.held member_terminal e voice p known_is in
          let after : After received =
          subst After (sym is)
          (when_elim After (from_elected t.member.group known_is.content)
          (λ _. when_elim After (true and (when t.reset.replied then false else true)) (λ _. heard_after) (λ _. refused_after Refusal.OtherGroup)) (λ _. refused_after Refusal.ForbiddenFields)) in
          after here (terminalProofs.receive_keeps t p longest_packet fits h.typed h.sound) (rw (et, es) owes) (receive_stays t p longest_packet plain).wrote
