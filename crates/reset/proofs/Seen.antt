-- The invariant of the group made last, of its survivors alone: `members` is each as it is in that group, `line` is where it began, as far as nobody is asked
-- to have what it began with, and `lost` are the submissions of who is no survivor. Each call of a survivor's member, and of the elected one's sequencer,
-- keeps it. Assumes nothing.
use mathlib.Core.Path.{◌≡◌, refl, sym, ap, ◌∙◌, subst, fun_ext}
use mathlib.Core.Logic.{◌≢◌}
use mathlib.Core.Bool.{Bool, true, false}
use mathlib.Core.List.{List, ◌++◌}
use Prim.Native.Nat.{ℕ, ◌≤◌, ◌<◌}
use native.Mathlib.Nat.{le_refl, le_trans}
use native.Mathlib.Omega.{arith}
use lib.ListN.{length, length-take}
use Rattle.group.proofs.Choice.{when_true, when_false}
use Rattle.group.proofs.Lists.{when_elim, eq_or, at_append, All, all_append, all_map}
use Rattle.group.proofs.Members.{Standing, survivor_lt}
use Rattle.group.specs.Choice.{when◌then◌else◌}
use Rattle.group.specs.Limits.{longest_packet, largest_number}
use Rattle.group.specs.Members.{is_in, needed_of}
use Rattle.group.specs.declared.Group.{Group}
use Rattle.group.specs.declared.SequenceNumber.{SequenceNumber}
use Rattle.history.proofs.Soundness.{taken_in}
use Rattle.message.proofs.Owning.{Owns}
use Rattle.message.specs.Order.{Ordered}
use Rattle.member.proofs.Acknowledged.{acknowledged_most}
use Rattle.member.proofs.Invariant.{voice_of, requested_by, Terminal, MemberGood, requested_owns}
use Rattle.member.specs.Calls as member
use Rattle.member.specs.State.{Member, reach_of, acknowledged_of}
use Rattle.model.proofs.Keep.{content_grows, seat_grows}
use Rattle.packet.proofs.Facts.{Voice, Facts, Known, SaysBy, KnownBy, Louder, Grows, known_grows, known_by}
use Rattle.packet.specs.Packet.{written}
use Rattle.packet.specs.declared.Packet.{Packet}
use Rattle.sequencer.proofs.Confirming.{confirmed_up}
use Rattle.sequencer.proofs.Invariant.{SequencerInv, Confirmed, SequencerGood, facts_of}
use Rattle.sequencer.proofs.Ordering as sequencerOrdering
use Rattle.sequencer.proofs.Soundness as sequencerSoundness
use Rattle.sequencer.specs.Calls as sequencer
use Rattle.sequencer.specs.Order.{numbered_by}
use Rattle.sequencer.specs.State.{Sequencer}
use Rattle.window.proofs.Row.{larger_le, le_larger}
use Rattle.window.specs.Places.{larger_of}

-- what a survivor can say of itself; who is none acknowledges nothing, and its reach counts nowhere
abbrev pub voice_at : ℕ → Member → List (List ℕ) → Voice
voice_at line m submitted = record { row = (acknowledged_of m).0; reach = larger_of (reach_of m) line; submitted = requested_by m submitted }

abbrev pub lost_voice : List (List ℕ) → Voice
lost_voice submitted = record { row = 0; reach = largest_number; submitted = submitted }

unfoldable pub voices : Group → ℕ → (ℕ → Member) → (ℕ → List (List ℕ)) → (ℕ → List (List ℕ)) → ℕ → Voice
voices group line members sb lost i = when is_in group.survivors i then voice_at line (members i) (sb i) else lost_voice (lost i)

-- the group under an order, what each survivor took and submitted, and the packets of its number
pub record Seen (group : Group) (line : ℕ) (s : Sequencer) (members : ℕ → Member) (order : List Ordered) (tk : ℕ → List Ordered) (sb lost : ℕ → List (List ℕ)) (packets : List (List ℕ)) : Type 0 where
  pub standing : Standing group
  pub sequencer : SequencerInv group s order
  pub confirmed : Confirmed group s (λ i. (voices group line members sb lost i).reach)
  pub terminal : (i : ℕ) → is_in group.survivors i ≡ true → Terminal group i (taken_in s.acknowledgements i) s.accepted.0 (members i) order (tk i) (sb i)
  pub owns : (i : ℕ) → i < group.n → is_in group.survivors i ≡ false → Owns i order (lost i)
  pub sizes : (i : ℕ) → is_in group.survivors i ≡ false → length (lost i) ≤ largest_number
  pub packets_known : All (Known group.number (facts_of group order s.accepted.0 (voices group line members sb lost))) packets

-- what was said stays said
says_louder : (needed i : ℕ) (v v' : Voice) → Louder v v' → (content : Packet) (payload : List ℕ) → SaysBy needed i v content payload → SaysBy needed i v' content payload
says_louder needed i v v' l (Packet.Request sender taken count) payload h = (h.0, le_trans h.1 l.row, l.submitted count payload h.2)
says_louder needed i v v' l (Packet.Broadcast originator number count floor) payload h = h
says_louder needed i v v' l (Packet.Gap sender taken first last) payload h = (h.0, le_trans h.1 l.row)
says_louder needed i v v' l (Packet.Status sender taken) payload h = (h.0, le_trans h.1 l.row)
says_louder needed i v v' l (Packet.Poll elected top floor) payload h = h
says_louder needed i v v' l (Packet.Offer originator number count floor) payload h = h
says_louder needed i v v' l (Packet.Confirm sender number) payload h = (h.0, le_trans h.1 l.reach, h.2)
says_louder needed i v v' l (Packet.Accept elected number) payload h = h
says_louder needed i v v' l (Packet.Invitation sender attempt) payload h = h
says_louder needed i v v' l (Packet.Reply sender attempt number) payload h = h
says_louder needed i v v' l (Packet.Result sender attempt elected number) payload h = h

known_louder : (g needed i : ℕ) (v v' : Voice) → Louder v v' → (p : List ℕ) → KnownBy g needed i v p → KnownBy g needed i v' p
known_louder g needed i v v' l p k =
    record {
      content = k.content;
      payload = k.payload;
      bytes_are = k.bytes_are;
      allowed = k.allowed;
      says = says_louder needed i v v' l k.content k.payload k.says;
    }

same_louder : (v : Voice) → Louder v v
same_louder v = record { row = le_refl _; reach = le_refl _; submitted = λ c p e. e }

-- a reach that counts as at least the line
line_louder : (line : ℕ) (m : Member) (submitted : List (List ℕ)) → Louder (voice_of m submitted) (voice_at line m submitted)
line_louder line m submitted = record { row = le_refl _; reach = (larger_le (reach_of m) line).0; submitted = λ c p e. e }

line_grows : (line : ℕ) (m m' : Member) (submitted submitted' : List (List ℕ)) → Louder (voice_of m submitted) (voice_of m' submitted') → Louder (voice_at line m submitted) (voice_at line m' submitted')
line_grows line m m' submitted submitted' l =
    let x = larger_le (reach_of m') line in
    record { row = l.row; reach = le_larger (reach_of m) line _ (le_trans l.reach x.0) x.1; submitted = l.submitted }

if_none : {A : Type 0} (x y z : A) → (when false then x else z) ≡ (when false then y else z)
unfolding when◌then◌else◌
if_none x y z = refl

voice_same : (group : Group) (line : ℕ) (members : ℕ → Member) (sb lost : ℕ → List (List ℕ)) (i : ℕ) → (is_in group.survivors i ≡ true → larger_of (reach_of (members i)) line ≡ larger_of (reach_of (members i)) 0)
    → voices group line members sb lost i ≡ voices group 0 members sb lost i
unfolding voices
voice_same group line members sb lost i same = go (is_in group.survivors i) refl
  where
    go : (b : Bool) → is_in group.survivors i ≡ b → (when b then voice_at line (members i) (sb i) else lost_voice (lost i)) ≡ (when b then voice_at 0 (members i) (sb i) else lost_voice (lost i))
    go true e = ap (λ (x : ℕ). when true then record { row = (acknowledged_of (members i)).0; reach = x; submitted = requested_by (members i) (sb i) } else lost_voice (lost i)) (same e)
    go false e = if_none (voice_at line (members i) (sb i)) (voice_at 0 (members i) (sb i)) (lost_voice (lost i))

-- once every survivor has what the group began with, nothing is granted: as many as have to confirm have all that is accepted
pub settled_seen : (group : Group) (line : ℕ) (s : Sequencer) (members : ℕ → Member) (order : List Ordered) (tk : ℕ → List Ordered) (sb lost : ℕ → List (List ℕ)) (packets : List (List ℕ))
    → ((i : ℕ) → is_in group.survivors i ≡ true → line ≤ reach_of (members i)) → Seen group line s members order tk sb lost packets → Seen group 0 s members order tk sb lost packets
settled_seen group line s members order tk sb lost packets has v =
    let same : voices group line members sb lost ≡ voices group 0 members sb lost = fun_ext (λ i. each i) in
    record {
      standing = v.standing;
      sequencer = v.sequencer;
      confirmed = subst (λ (f : ℕ → Voice). Confirmed group s (λ i. (f i).reach)) same v.confirmed;
      terminal = v.terminal;
      owns = v.owns;
      sizes = v.sizes;
      packets_known = subst (λ (f : ℕ → Voice). All (Known group.number (facts_of group order s.accepted.0 f)) packets) same v.packets_known;
    }
  where
    reached : (a b : ℕ) → b ≤ a → larger_of a b ≡ larger_of a 0
    reached a b le =
        let x = (larger_le a b).0 in
        let y = le_larger a b a (le_refl a) le in
        let x' = (larger_le a 0).0 in
        let y' = le_larger a 0 a (le_refl a) (omega arith) in
        omega arith

    each : (i : ℕ) → voices group line members sb lost i ≡ voices group 0 members sb lost i
    each i = voice_same group line members sb lost i (λ e. reached (reach_of (members i)) line (has i e))

module _ (group : Group) (line : ℕ) (s : Sequencer) (members : ℕ → Member) (order : List Ordered) (tk : ℕ → List Ordered) (sb lost : ℕ → List (List ℕ)) (packets : List (List ℕ))
    (v : Seen group line s members order tk sb lost packets) where
  abbrev voice : ℕ → Voice
  voice = voices group line members sb lost

  voice_is : (i : ℕ) → is_in group.survivors i ≡ true → voice i ≡ voice_at line (members i) (sb i)
  unfolding voices
  voice_is i e = sym (when_true (is_in group.survivors i) _ _ _ e refl)

  -- what the sequencer's contract asks of each member
  acked : (i : ℕ) → i < group.n → taken_in s.acknowledgements i ≤ (voice i).row
  unfolding voices
  acked i b =
      when_elim (λ (x : Voice). taken_in s.acknowledgements i ≤ x.row) (is_in group.survivors i) (λ e. (v.terminal i e).seat.acknowledged_le)
      (λ e. let z = ((sequencerSoundness.sound_of_lem s v.sequencer.sound).lost i (rw v.sequencer.group_is e)).taken in omega arith)

  rows : (i : ℕ) → i < group.n → (voice i).row ≤ s.accepted.0
  unfolding voices
  rows i b = when_elim (λ (x : Voice). x.row ≤ s.accepted.0) (is_in group.survivors i) (λ e. acknowledged_most (v.terminal i e)) (λ e. omega arith)

  sizes : (i : ℕ) → i < group.n → length (voice i).submitted ≤ largest_number
  unfolding voices
  sizes i b =
      when_elim (λ (x : Voice). length x.submitted ≤ largest_number) (is_in group.survivors i)
      (λ e. let h = (v.terminal i e).content in let z = h.typed.submitted in let y = h.submitted_is in simp length-take (omega arith)) (λ e. v.sizes i e)

  owns : (i : ℕ) → i < group.n → Owns i order (voice i).submitted
  unfolding voices
  owns i b = when_elim (λ (x : Voice). Owns i order x.submitted) (is_in group.survivors i) (λ e. requested_owns (v.terminal i e).content) (λ e. v.owns i b e)

  -- a call of the sequencer
  module _ (o : sequencer.Outcome) (h : SequencerGood group order s.accepted.0 voice (written o.bytes) o) where
    abbrev more : List Ordered
    more = numbered_by o.answer o.bytes

    own_in : (i : ℕ) → is_in group.survivors i ≡ true → Owns i (order ++ more) (requested_by (members i) (sb i))
    own_in i e = subst (λ (x : Voice). Owns i (order ++ more) x.submitted) (voice_is i e) (h.own i (survivor_lt group v.standing i e))

    own_out : (i : ℕ) → i < group.n → is_in group.survivors i ≡ false → Owns i (order ++ more) (lost i)
    unfolding voices
    own_out i b e = subst (λ (x : Voice). Owns i (order ++ more) x.submitted) (sym (when_false (is_in group.survivors i) (lost_voice (lost i)) _ _ e refl)) (h.own i b)

    row_in : (i : ℕ) → is_in group.survivors i ≡ true → taken_in o.sequencer.acknowledgements i ≤ (acknowledged_of (members i)).0
    row_in i e = subst (λ (x : Voice). taken_in o.sequencer.acknowledgements i ≤ x.row) (voice_is i e) (h.acknowledged i (survivor_lt group v.standing i e))

    pub sequencer_seen : Seen group line o.sequencer members (order ++ more) tk sb lost (packets ++ written o.bytes)
    sequencer_seen =
        let facts : Facts = facts_of group order s.accepted.0 voice in
        let facts' : Facts = facts_of group (order ++ more) o.sequencer.accepted.0 voice in
        let grows : Grows facts facts' = record { needed = le_refl _; order = λ k m e. at_append order more k e; accepted = h.up; voice = λ i. same_louder (voice i) } in
        record {
          standing = v.standing;
          sequencer = h.inv;
          confirmed = h.confirmed;
          terminal = λ i e.
              let t = v.terminal i e in
              record {
                content = content_grows i _ order more (tk i) (sb i) t.content (own_in i e);
                seat = seat_grows group i _ _ _ _ _ t.seat (row_in i e) h.up;
              };
          owns = own_out;
          sizes = v.sizes;
          packets_known = all_append _ packets (written o.bytes) (all_map _ _ (known_grows facts facts' grows group.number) packets v.packets_known) h.known;
        }

  -- poll, copy, and a packet of the group
  pub poll_seen : let o = sequencer.poll_of s longest_packet in Seen group line o.sequencer members (order ++ numbered_by o.answer o.bytes) tk sb lost (packets ++ written o.bytes)
  poll_seen = sequencer_seen (sequencer.poll_of s longest_packet) (sequencerOrdering.poll_good group order s v.sequencer voice acked rows sizes owns v.confirmed)

  pub copy_seen : (number : SequenceNumber) → let o = sequencer.copy_of s number longest_packet in
      Seen group line o.sequencer members (order ++ numbered_by o.answer o.bytes) tk sb lost (packets ++ written o.bytes)
  copy_seen number = sequencer_seen (sequencer.copy_of s number longest_packet) (sequencerOrdering.copy_good group order s v.sequencer voice acked rows sizes owns v.confirmed number)

  pub order_seen : (p : List ℕ) → Known group.number (facts_of group order s.accepted.0 voice) p → let o = sequencer.receive_of s p longest_packet in
      Seen group line o.sequencer members (order ++ numbered_by o.answer o.bytes) tk sb lost (packets ++ written o.bytes)
  order_seen p k = sequencer_seen (sequencer.receive_of s p longest_packet) (sequencerOrdering.receive_good group order s v.sequencer voice acked rows sizes owns v.confirmed p k)

  pub order_up : (p : List ℕ) → Known group.number (facts_of group order s.accepted.0 voice) p → s.accepted.0 ≤ (sequencer.receive_of s p longest_packet).sequencer.accepted.0
  order_up p k = (sequencerOrdering.receive_good group order s v.sequencer voice acked rows sizes owns v.confirmed p k).up

  -- a call of survivor i's member: the others' stay
  module _ (i : ℕ) (inside : is_in group.survivors i ≡ true) (members' : ℕ → Member) (tk' : ℕ → List Ordered) (sb' : ℕ → List (List ℕ)) (o : member.Outcome) (ps : List (List ℕ))
      (here : members' i ≡ o.member) (other : (j : ℕ) → j ≢ i → members' j ≡ members j) (other-tk : (j : ℕ) → j ≢ i → tk' j ≡ tk j) (other-sb : (j : ℕ) → j ≢ i → sb' j ≡ sb j)
      (h : MemberGood group i (taken_in s.acknowledgements i) s.accepted.0 order (sb i) (members i) (tk' i) (sb' i) ps o) where
    abbrev voice' : ℕ → Voice
    voice' = voices group line members' sb' lost

    voice_here : voice' i ≡ voice_at line o.member (sb' i)
    unfolding voices
    voice_here = sym (when_true (is_in group.survivors i) _ _ _ inside refl) ∙ ap (λ (m : Member). voice_at line m (sb' i)) here

    voice_other : (j : ℕ) → j ≢ i → voice' j ≡ voice j
    unfolding voices
    voice_other j q = rw (other j q, other-sb j q)

    louder : (j : ℕ) → Louder (voice j) (voice' j)
    louder j =
        eq_or j i
        (λ q. subst (λ (k : ℕ). Louder (voice k) (voice' k)) (sym q)
        (subst (Louder (voice i)) (sym voice_here) (subst (λ (x : Voice). Louder x (voice_at line o.member (sb' i))) (sym (voice_is i inside)) (line_grows line (members i) o.member (sb i) (sb' i) h.louder))))
        (λ q. subst (Louder (voice j)) (sym (voice_other j q)) (same_louder (voice j)))

    pub member_seen : Seen group line s members' order tk' sb' lost (packets ++ ps)
    member_seen =
        let facts : Facts = facts_of group order s.accepted.0 voice in
        let facts' : Facts = facts_of group order s.accepted.0 voice' in
        let grows : Grows facts facts' = record { needed = le_refl _; order = λ k m e. e; accepted = le_refl _; voice = louder } in
        record {
          standing = v.standing;
          sequencer = v.sequencer;
          confirmed = confirmed_up group s (λ j. (voice j).reach) (λ j. (voice' j).reach) (λ j. (louder j).reach) v.confirmed;
          terminal = λ j e.
              eq_or j i
              (λ q. subst (λ (k : ℕ). Terminal group k (taken_in s.acknowledgements k) s.accepted.0 (members' k) order (tk' k) (sb' k)) (sym q) (rw here h.terminal))
              (λ q. rw (other j q, other-tk j q, other-sb j q) (v.terminal j e));
          owns = v.owns;
          sizes = v.sizes;
          packets_known =
              all_append _ packets ps (all_map _ _ (known_grows facts facts' grows group.number) packets v.packets_known)
              (all_map _ _
              (λ p y. known_by group.number i facts' p
              (subst (λ (x : Voice). KnownBy group.number (needed_of group) i x p) (sym voice_here)
              (known_louder group.number (needed_of group) i (voice_of o.member (sb' i)) (voice_at line o.member (sb' i)) (line_louder line o.member (sb' i)) p y)))
              ps h.known);
        }

-- it speaks of survivors alone
voices_same : (group : Group) (line : ℕ) (members members' : ℕ → Member) (sb sb' lost : ℕ → List (List ℕ)) (i : ℕ) → (is_in group.survivors i ≡ true → members' i ≡ members i)
    → (is_in group.survivors i ≡ true → sb' i ≡ sb i) → voices group line members sb lost i ≡ voices group line members' sb' lost i
unfolding voices
voices_same group line members members' sb sb' lost i em es = go (is_in group.survivors i) refl
  where
    go : (b : Bool) → is_in group.survivors i ≡ b → (when b then voice_at line (members i) (sb i) else lost_voice (lost i)) ≡ (when b then voice_at line (members' i) (sb' i) else lost_voice (lost i))
    go true e = rw (em e, es e)
    go false e = if_none (voice_at line (members i) (sb i)) (voice_at line (members' i) (sb' i)) (lost_voice (lost i))

pub same_seen : (group : Group) (line : ℕ) (s : Sequencer) (members members' : ℕ → Member) (order : List Ordered) (tk tk' : ℕ → List Ordered) (sb sb' lost : ℕ → List (List ℕ)) (packets : List (List ℕ))
    → ((i : ℕ) → is_in group.survivors i ≡ true → members' i ≡ members i) → ((i : ℕ) → is_in group.survivors i ≡ true → tk' i ≡ tk i) → ((i : ℕ) → is_in group.survivors i ≡ true → sb' i ≡ sb i)
    → Seen group line s members order tk sb lost packets → Seen group line s members' order tk' sb' lost packets
same_seen group line s members members' order tk tk' sb sb' lost packets em et es v =
    let same : voices group line members sb lost ≡ voices group line members' sb' lost = fun_ext (λ i. each i) in
    record {
      standing = v.standing;
      sequencer = v.sequencer;
      confirmed = subst (λ (f : ℕ → Voice). Confirmed group s (λ i. (f i).reach)) same v.confirmed;
      terminal = λ i e. rw (em i e, et i e, es i e) (v.terminal i e);
      owns = v.owns;
      sizes = v.sizes;
      packets_known = subst (λ (f : ℕ → Voice). All (Known group.number (facts_of group order s.accepted.0 f)) packets) same v.packets_known;
    }
  where
    each : (i : ℕ) → voices group line members sb lost i ≡ voices group line members' sb' lost i
    each i = voices_same group line members members' sb sb' lost i (em i) (es i)
