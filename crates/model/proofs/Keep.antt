-- The invariant after a call of one end, from what that call owes. Assumes nothing.
use mathlib.Core.Path.{◌≡◌, sym, ◌∙◌, subst}
use mathlib.Core.Logic.{◌≢◌}
use mathlib.Core.Option.{some}
use mathlib.Core.List.{List, ◌++◌}
use Prim.Native.Nat.{ℕ, ◌+◌, ◌≤◌, ◌<◌}
use native.Mathlib.Nat.{le_refl, le_trans}
use native.Mathlib.Omega.{arith}
use lib.ListN.{length, get_or, set, length-set, length-append}
use lib.Seq.{take-append-le, get_or-set_same}
use Rattle.group.proofs.Lists.{at, all_append, all_map, at_append, set_each}
use Rattle.group.specs.Members.{needed_of}
use Rattle.group.specs.declared.Group as description
use Rattle.member.proofs.Invariant.{requested_by, voice_of, Content, Seat, Terminal, MemberGood}
use Rattle.member.specs.Calls as member
use Rattle.member.specs.State.{Member, acknowledged_of, first_count}
use Rattle.message.proofs.Owning.{Owns, owns_taken}
use Rattle.message.specs.Order.{Ordered}
use Rattle.model.specs.World.{Group, no_member, with_member, with_sequencer}
use Rattle.model.proofs.Invariant.{Inv, voice_in, facts_in, reach_in}
use Rattle.packet.proofs.Facts.{Voice, Facts, Louder, Grows, KnownBy, known_grows, known_by}
use Rattle.packet.specs.Packet.{written}
use Rattle.history.proofs.Soundness.{taken_in}
use Rattle.sequencer.proofs.Confirming.{confirmed_up}
use Rattle.sequencer.proofs.Invariant.{SequencerGood, facts_of}
use Rattle.sequencer.specs.Calls as sequencer
use Rattle.sequencer.specs.Order.{numbered_by}

-- what a terminal has after a call of the sequencer: the order grew
pub content_grows : (i : ℕ) (m : Member) (ord more tk : List Ordered) (sb : List (List ℕ)) → Content i m ord tk sb → Owns i (ord ++ more) (requested_by m sb)
    → Content i m (ord ++ more) tk sb
content_grows i m ord more tk sb h ho =
    let own = owns_taken i (first_count m) (ord ++ more) sb ho in
    record {
      typed = h.typed;
      sound = h.sound;
      taken_le = simp length-append (let z = h.taken_le in omega arith);
      took_is = h.took_is ∙ sym (take-append-le m.taken.0 ord more h.taken_le);
      held_is = λ k lo hi held. let x = h.held_is k lo hi held in (x.0, at_append ord more k x.1, x.2);
      submitted_is = h.submitted_is;
      count_le = own.0;
      own_taken = h.own_taken;
      waiting_is = h.waiting_is;
      own_is = own.1;
      payload_ok = h.payload_ok;
    }

-- and its seat: its entry and the last accepted number may have grown
pub seat_grows : (group : description.Group) (i a a' accepted accepted' : ℕ) (m : Member) → Seat group i a accepted m → a' ≤ (acknowledged_of m).0 → accepted ≤ accepted'
    → Seat group i a' accepted' m
seat_grows group i a a' accepted accepted' m h ha up =
    record {
      group_is = h.group_is;
      number_is = h.number_is;
      acknowledged_le = ha;
      accepted_le = le_trans h.accepted_le up;
      plain = h.plain;
    }

-- a call of the sequencer
pub keep_sequencer : (group : description.Group) (w : Group) (ord : List Ordered) (tk : ℕ → List Ordered) (sb : ℕ → List (List ℕ)) (o : sequencer.Outcome)
    → Inv group w ord tk sb
    → SequencerGood group ord w.sequencer.accepted.0 (voice_in w.members sb) (written o.bytes) o
    → Inv group (with_sequencer w o).group (ord ++ numbered_by o.answer o.bytes) tk sb
keep_sequencer group w ord tk sb o v h =
    let more = numbered_by o.answer o.bytes in
    let facts : Facts = facts_in group w ord sb in
    let facts' : Facts = facts_of group (ord ++ more) o.sequencer.accepted.0 (voice_in w.members sb) in
    let grows : Grows facts facts' =
    record {
      needed = le_refl _;
      order = λ s m e. at_append ord more s e;
      accepted = h.up;
      voice = λ i. record { row = le_refl _; reach = le_refl _; submitted = λ c p e. e };
    } in
    record {
      everybody = v.everybody;
      sequencer = h.inv;
      confirmed = h.confirmed;
      members = v.members;
      terminal = λ i b.
          let t = v.terminal i b in
          record {
            content = content_grows i _ ord more (tk i) (sb i) t.content (h.own i b);
            seat = seat_grows group i _ _ _ _ _ t.seat (h.acknowledged i b) h.up;
          };
      packets = all_append _ w.packets (written o.bytes) (all_map _ _ (known_grows facts facts' grows group.number) w.packets v.packets) h.known;
    }

-- a call of member i
pub keep_member : (group : description.Group) (w : Group) (ord : List Ordered) (tk tk' : ℕ → List Ordered) (sb sb' : ℕ → List (List ℕ)) (i : ℕ) (o : member.Outcome) (packets : List (List ℕ))
    → i < group.n → ((j : ℕ) → j ≢ i → tk' j ≡ tk j) → ((j : ℕ) → j ≢ i → sb' j ≡ sb j)
    → Inv group w ord tk sb
    → MemberGood group i (taken_in w.sequencer.acknowledgements i) w.sequencer.accepted.0 ord (sb i) (get_or w.members i no_member) (tk' i) (sb' i) packets o
    → Inv group (with_member w i o packets).group ord tk' sb'
keep_member group w ord tk tk' sb sb' i o packets hi ht hs v h =
    record {
      everybody = v.everybody;
      sequencer = v.sequencer;
      confirmed = confirmed_up group w.sequencer (reach_in w.members) (reach_in members') (λ j. (louder j).reach) v.confirmed;
      members = length-set w.members i o.member ∙ v.members;
      terminal = λ j b.
          set_each
          (λ (k : ℕ) (m : Member). Terminal group k (taken_in w.sequencer.acknowledgements k) w.sequencer.accepted.0 m ord (tk' k) (sb' k))
          w.members i o.member no_member j
          (λ e. rw e h.terminal)
          (λ e. rw (ht j e, hs j e) (v.terminal j b))
          inside;
      packets =
          all_append _ w.packets packets
          (all_map _ _ (known_grows (facts_in group w ord sb) facts' grows group.number) w.packets v.packets)
          (all_map _ _
          (λ p y. known_by group.number i facts' p
          (subst (λ (x : Member). KnownBy group.number (needed_of group) i (voice_of x (sb' i)) p) (sym (get_or-set_same w.members i o.member no_member inside)) y))
          packets h.known);
    }
  where
    inside : i < length w.members
    inside = let z = v.members in omega arith

    members' : List Member
    members' = set w.members i o.member

    facts' : Facts
    facts' = facts_of group ord w.sequencer.accepted.0 (voice_in members' sb')

    louder : (j : ℕ) → Louder (voice_in w.members sb j) (voice_in members' sb' j)
    louder j =
        set_each (λ (k : ℕ) (m : Member). Louder (voice_in w.members sb k) (voice_of m (sb' k))) w.members i o.member no_member j
        (λ e. rw e h.louder)
        (λ e. rw (hs j e) (record { row = le_refl _; reach = le_refl _; submitted = λ c p z. z }))
        inside

    grows : Grows (facts_in group w ord sb) facts'
    grows = record { needed = le_refl _; order = λ s m e. e; accepted = le_refl _; voice = louder }
