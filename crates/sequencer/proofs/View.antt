-- What is done to the arrays, said of the state that they hold: noting and clearing lead to the noted state, and what is laid then to the
-- step of the definition. The view says every number and byte of the struct. Assumes nothing.
use Rattle.group.specs.Question.{all_yes}
use mathlib.Core.Path.{◌≡◌, refl, sym, ap, subst, ◌∙◌}
use mathlib.Core.List.{List}
use Prim.Native.Nat.{ℕ, ◌+◌, ◌-◌, ◌*◌, ◌<◌, ◌≤◌}
use native.Mathlib.Nat.{lt_of_lt_of_le}
use native.Mathlib.Omega.{arith}
use lib.ListN.{length, get_or, set, take, drop, replicate, length-set}
use lib.Seq.{get_or-set_same, take-take}
use Rattle.group.specs.Choice.{when◌then◌else◌, ◌and◌, ◌≤?◌}
use Rattle.group.specs.Fold.{all, all_above}
use Rattle.group.specs.Lent.{Laid}
use Rattle.group.specs.Limits.{members_most, places_most, payload_most, longest_packet}
use Rattle.group.specs.Members.{needed_of, expected_of}
use Rattle.group.proofs.Lists.{when_elim}
use Rattle.group.proofs.Members.{survivor_lt}
use Rattle.group.specs.declared.Group.{Group}
use Rattle.group.specs.declared.MemberNumber.{MemberNumber}
use Rattle.group.specs.declared.SequenceNumber.{SequenceNumber}
use Rattle.message.proofs.Kept.{payload_short}
use Rattle.message.specs.Message.{Message, message_of, payload_of, blank}
use Rattle.packet.proofs.Permitted.{broadcast_fields, offer_fields, laid_whole}
use Rattle.packet.specs.Packet.{fields_of, fields_verdict, packet_of, write_of}
use Rattle.packet.specs.declared.Header.{Header}
use Rattle.packet.specs.declared.Packet.{Packet}
use Rattle.packet.specs.declared.Packet.TheVariants.{Request, Broadcast, Gap, Status, Poll, Offer, Confirm, Accept, Invitation, Result}
use Rattle.store.specs.Places.{part_of, message_in, messages_in}
use Rattle.store.proofs.Places.{length_messages, message_in_lem, messages_none}
use Rattle.history.specs.Ask.{sender_of}
use Rattle.history.specs.Marks.{mark_sound}
use Rattle.history.specs.Note.{larger_of, with_taken, with_counts, table_noted, cleared_of}
use Rattle.history.specs.Sound.{entry_sound, place_sound, frame_sound}
use Rattle.history.specs.State.{Acknowledgement, no_acknowledgement, acknowledgement_of, place_of, message_at, floor_of}
use Rattle.history.specs.declared.Sender.{Sender}
use Rattle.history.specs.View.{table_in, taken_only, counts_only, listed}
use Rattle.history.proofs.Noting.{cleared_length}
use Rattle.history.proofs.View.{set_own, length_table, entry_in_lem, table_laid, taken_laid, floor_taken, frame_taken, places_only, find_listed, table_none}
use Rattle.sequencer.specs.Owed.{MayBroadcast, MaySend, Due, Left}
use Rattle.sequencer.specs.Calls.{announced}
use Rattle.sequencer.specs.Note.{with_table, note_of}
use Rattle.sequencer.specs.Promise.{Changed}
use Rattle.sequencer.specs.State.{Sequencer, last_count, repeat_count, fresh_sequencer}
use Rattle.sequencer.specs.Sound.{sound_of}
use Rattle.sequencer.specs.Steps.{accepted_step, confirmation_of, request_change, change_of, sent_of, laid_of, changed}
use Rattle.sequencer.specs.View.{Stored, whole, view_of, Fits}
use Rattle.sequencer.specs.declared.Change.{Change}
use Rattle.std.specs.Prelude.{None}
use Rattle.sequencer.specs.declared.Head.{Head}
use Rattle.sequencer.proofs.Outcomes.{changed_as, changed_laid}
use Rattle.sequencer.proofs.Owed.{accepted_sender, accepted_left}
use Rattle.sequencer.proofs.Sending.{change_sends, noted_sound}
use Rattle.sequencer.proofs.Settling.{outcome_of, accepted_is}
use Rattle.sequencer.proofs.Soundness.{stands, Sound, sound_of_lem}

-- what a packet changes, of a history of which only counts and originators are asked
change_listed : (kept originators lengths payloads : List ℕ) (packet : Packet) (last floor : ℕ) (top accepted : SequenceNumber) (needed repeats : ℕ)
    → change_of (listed kept originators) packet last floor top accepted needed repeats
    ≡ change_of (messages_in kept originators lengths payloads) packet last floor top accepted needed repeats
unfolding change_of request_change
change_listed kept originators lengths payloads (Request sender taken count) last floor top accepted needed repeats =
    rw (find_listed kept originators lengths payloads sender count floor (top.0 - floor))
change_listed kept originators lengths payloads (Broadcast originator number count f) last floor top accepted needed repeats = refl
change_listed kept originators lengths payloads (Gap sender taken first to) last floor top accepted needed repeats = refl
change_listed kept originators lengths payloads (Status sender taken) last floor top accepted needed repeats = refl
change_listed kept originators lengths payloads (Poll elected t f) last floor top accepted needed repeats = refl
change_listed kept originators lengths payloads (Offer originator number count f) last floor top accepted needed repeats = refl
change_listed kept originators lengths payloads (Confirm sender number) last floor top accepted needed repeats = refl
change_listed kept originators lengths payloads (Accept elected number) last floor top accepted needed repeats = refl
change_listed kept originators lengths payloads (Invitation sender attempt) last floor top accepted needed repeats = refl
change_listed kept originators lengths payloads (Packet.Reply sender attempt number) last floor top accepted needed repeats = refl
change_listed kept originators lengths payloads (Result sender attempt elected number) last floor top accepted needed repeats = refl

-- counts and repeats that are laid into an entry
counts_laid : (taken counts repeats : List ℕ) (i c r : ℕ) → i < length taken → i < length counts → i < length repeats
    → table_in taken (set counts i c) (set repeats i r) ≡ set (table_in taken counts repeats) i (with_counts (get_or (table_in taken counts repeats) i no_acknowledgement) c r)
counts_laid taken counts repeats i c r a b d =
    ap (λ (l : List ℕ). table_in l (set counts i c) (set repeats i r)) (sym (set_own taken i 0))
    ∙ table_laid taken counts repeats i (get_or taken i 0) c r a b d
    ∙ ap (λ (x : Acknowledgement). set (table_in taken counts repeats) i (with_counts x c r)) (sym (entry_in_lem taken counts repeats i a))

-- a packet that is accepted, in a struct whose arrays have their lengths
module _ (head : Head) (taken counts repeats kept marks originators lengths payloads : List ℕ) (fits : Fits (whole head taken counts repeats kept marks originators lengths payloads))
    (packet : Packet) (payload : List ℕ) (room : ℕ) (due : Due (view_of (whole head taken counts repeats kept marks originators lengths payloads)) packet (length payload) room) where
  abbrev state : Sequencer
  state = view_of (whole head taken counts repeats kept marks originators lengths payloads)

  abbrev m : MemberNumber
  m = (sender_of packet).member

  pub inside : m.0 < members_most
  unfolding view_of
  inside =
      let f = sound_of_lem state due.sizes.sound in
      lt_of_lt_of_le (survivor_lt state.group (stands state f) m.0 (accepted_sender _ _ _ _ packet due.accepted).0) f.n_most

  -- A is noted, and what the floor passes is cleared
  module _ (taken' kept' originators' lengths' payloads' : List ℕ) (floor : SequenceNumber)
      (noted : taken' ≡ set taken m.0 (larger_of (get_or taken m.0 0) (sender_of packet).taken.0))
      (smallest : floor.0 ≡ floor_of head.group.survivors (taken_only taken'))
      (cleared : messages_in kept' originators' lengths' payloads' ≡ cleared_of (messages_in kept originators lengths payloads) head.floor.0 (floor.0 - head.floor.0)) where
    abbrev next : Stored
    next = whole (record { group = head.group; top = head.top; accepted = head.accepted; floor = floor }) taken' counts repeats kept' marks originators' lengths' payloads'

    sizes : (length taken ≡ members_most) × (length counts ≡ members_most) × (length repeats ≡ members_most) × (length kept ≡ places_most)
    sizes = (fits.entries.taken_size, fits.entries.counts_size, fits.entries.repeats_size, fits.places.kept_size)

    table_noted_lem : table_in taken' counts repeats ≡ table_noted (table_in taken counts repeats) m (sender_of packet).taken
    unfolding table_noted
    table_noted_lem =
        let z = sizes in
        let i = inside in
        ap (λ (l : List ℕ). table_in l counts repeats) noted
        ∙ taken_laid taken counts repeats m.0 (larger_of (get_or taken m.0 0) (sender_of packet).taken.0)
        ∙ ap (λ (x : Acknowledgement). set (table_in taken counts repeats) m.0 (with_taken x (sender_of packet).taken)) (sym (entry_in_lem taken counts repeats m.0 (omega arith)))

    noted_is : view_of next ≡ note_of state m (sender_of packet).taken
    unfolding view_of note_of with_table
    noted_is =
        let f = smallest ∙ floor_taken head.group.survivors taken' counts repeats ∙ ap (floor_of head.group.survivors) table_noted_lem in
        (λ i. record { group = head.group; acknowledgements = table_noted_lem i; top = head.top; accepted = head.accepted; floor = floor; history = cleared i; marks = marks })
        ∙ (λ i. record { group = head.group; acknowledgements = table_noted (table_in taken counts repeats) m (sender_of packet).taken; top = head.top; accepted = head.accepted; floor = record { 0 = f i }; history = cleared_of (messages_in kept originators lengths payloads) head.floor.0 (f i - head.floor.0); marks = marks })

    next_sound : Sound (view_of next)
    unfolding view_of
    next_sound =
        let z = sizes in
        subst Sound (sym noted_is)
        (noted_sound state packet due.sizes.sound (length_table taken counts repeats ∙ z.0) (length_messages kept originators lengths payloads ∙ z.3) due.accepted)

    member_inside : m.0 < length taken'
    member_inside =
        let z = sizes in
        let i = inside in
        let l = length-set taken m.0 (larger_of (get_or taken m.0 0) (sender_of packet).taken.0) in
        subst (λ (x : List ℕ). m.0 < length x) (sym noted) (omega arith)

    last_is : get_or counts m.0 0 ≡ last_count (view_of next) m
    unfolding view_of
    last_is = ap (λ (a : Acknowledgement). a.count) (sym (entry_in_lem taken' counts repeats m.0 member_inside))

    repeats_is : get_or repeats m.0 0 ≡ repeat_count (view_of next) m
    unfolding view_of
    repeats_is = ap (λ (a : Acknowledgement). a.repeats) (sym (entry_in_lem taken' counts repeats m.0 member_inside))

    next_left : Left packet (get_or counts m.0 0) head.top.0
    unfolding view_of
    next_left =
        let last : get_or counts m.0 0 ≡ (acknowledgement_of (table_noted (table_in taken counts repeats) m (sender_of packet).taken) m).count
        = last_is ∙ ap (λ (t : List Acknowledgement). (acknowledgement_of t m).count) table_noted_lem in
        subst (λ (k : ℕ). Left packet k head.top.0) (sym last)
        (accepted_left head.group (table_in taken counts repeats) head.accepted.0 head.top.0 packet (sender_of packet).taken due.accepted)

    -- what the packet changes
    abbrev change : Change
    change = change_of (listed kept' originators') packet (get_or counts m.0 0) floor.0 head.top head.accepted (needed_of head.group) (get_or repeats m.0 0)

    abbrev change_in : Sequencer → Change
    change_in s = change_of s.history packet (last_count s m) s.floor.0 s.top s.accepted (needed_of s.group) (repeat_count s m)

    change_is : change ≡ change_in (view_of next)
    unfolding view_of
    change_is =
        change_listed kept' originators' lengths' payloads' packet (get_or counts m.0 0) floor.0 head.top head.accepted (needed_of head.group) (get_or repeats m.0 0)
        ∙ (λ i. change_of (messages_in kept' originators' lengths' payloads') packet (last_is i) floor.0 head.top head.accepted (needed_of head.group) (repeats_is i))

    places_kept : length (messages_in kept' originators' lengths' payloads') ≡ places_most
    places_kept =
        ap (λ (h : List Message). length h) cleared
        ∙ cleared_length (messages_in kept originators lengths payloads) head.floor.0 (floor.0 - head.floor.0)
        ∙ length_messages kept originators lengths payloads ∙ sizes.3

    -- the change is laid
    module _ (kept'' originators'' lengths'' payloads'' : List ℕ)
        (laid : messages_in kept'' originators'' lengths'' payloads''
        ≡ set (messages_in kept' originators' lengths' payloads') (place_of change.number.0)
        (when change.number.0 ≤? head.top.0 then message_at (messages_in kept' originators' lengths' payloads') change.number.0 else message_of m change.count payload)) where
      abbrev message : Message
      message = laid_of (view_of next) m change payload

      laid_is : messages_in kept'' originators'' lengths'' payloads'' ≡ set (messages_in kept' originators' lengths' payloads') (place_of change.number.0) message
      unfolding laid_of view_of
      laid_is = laid

      message_is_lem : message ≡ get_or (messages_in kept'' originators'' lengths'' payloads'') (place_of change.number.0) blank
      message_is_lem =
          let z = places_kept in
          sym (ap (λ (h : List Message). get_or h (place_of change.number.0) blank) laid_is
          ∙ get_or-set_same (messages_in kept' originators' lengths' payloads') (place_of change.number.0) message blank (omega arith))

      next_sends : MaySend change.answer change.top floor (get_or (messages_in kept'' originators'' lengths'' payloads'') (place_of change.number.0) blank)
      unfolding view_of
      next_sends =
          subst (λ (x : Message). MaySend change.answer change.top floor x) message_is_lem
          (subst (λ (c : Change). MaySend c.answer c.top floor (laid_of (view_of next) m c payload)) (sym change_is)
          (change_sends (view_of next) next_sound m payload due.sizes.payload packet (last_count (view_of next) m) (needed_of head.group) (repeat_count (view_of next) m)))

      abbrev last : Stored
      last = whole (record { group = head.group; top = change.top; accepted = change.accepted; floor = floor }) taken' (set counts m.0 change.count) (set repeats m.0 change.repeats) kept'' marks originators'' lengths'' payloads''

      last_view : view_of last ≡ changed (view_of next) m change message
      unfolding view_of changed
      last_view =
          let z = sizes in
          let i = inside in
          let table = counts_laid taken' counts repeats m.0 change.count change.repeats member_inside (omega arith) (omega arith) in
          λ i. record { group = head.group; acknowledgements = table i; top = change.top; accepted = change.accepted; floor = floor; history = laid_is i; marks = marks }

      places_next : length (view_of next).history ≡ places_most
      unfolding view_of
      places_next = places_kept

      outcome_is : confirmation_of packet ≡ None → outcome_of (view_of next) m payload change ≡ accepted_step state packet payload
      outcome_is none =
          let size = ap (λ (s : Sequencer). length s.history) (sym noted_is) ∙ places_next in
          ap (outcome_of (view_of next) m payload) change_is
          ∙ ap (λ (s : Sequencer). outcome_of s m payload (change_in s)) noted_is
          ∙ sym (accepted_is state packet payload due.accepted none size)

      accepted_changed : confirmation_of packet ≡ None → (written : ℕ) (x y : List ℕ)
          → Laid (sent_of change.answer head.group change.top change.accepted floor (get_or (messages_in kept'' originators'' lengths'' payloads'') (place_of change.number.0) blank)) written x y
          → Changed (accepted_step state packet payload) (record { answer = change.answer; written = written }) last x y
      unfolding view_of
      accepted_changed none written x y l =
          changed_as (outcome_is none)
          (changed_laid (outcome_of (view_of next) m payload change) last written x y last_view
          (subst (λ (b : Message). Laid (sent_of change.answer head.group change.top change.accepted floor b) written x y) (sym message_is_lem) l))

-- the same, of what the functions gave back: the sender, the change and the place of its number
module _ (head : Head) (taken counts repeats kept marks originators lengths payloads : List ℕ) (fits : Fits (whole head taken counts repeats kept marks originators lengths payloads))
    (packet : Packet) (payload : List ℕ) (room : ℕ) (due : Due (view_of (whole head taken counts repeats kept marks originators lengths payloads)) packet (length payload) room) (from : Sender) (sent-by : from ≡ sender_of packet) where
  pub sender_inside : from.member.0 < members_most
  sender_inside = subst (λ (x : Sender). x.member.0 < members_most) (sym sent-by) (inside head taken counts repeats kept marks originators lengths payloads fits packet payload room due)

  module _ (taken' kept' originators' lengths' payloads' : List ℕ) (floor : SequenceNumber)
      (noted : taken' ≡ set taken from.member.0 (larger_of (get_or taken from.member.0 0) from.taken.0))
      (smallest : floor.0 ≡ floor_of head.group.survivors (taken_only taken'))
      (cleared : messages_in kept' originators' lengths' payloads' ≡ cleared_of (messages_in kept originators lengths payloads) head.floor.0 (floor.0 - head.floor.0)) where
    noted_by : taken' ≡ set taken (sender_of packet).member.0 (larger_of (get_or taken (sender_of packet).member.0 0) (sender_of packet).taken.0)
    noted_by = noted ∙ ap (λ (x : Sender). set taken x.member.0 (larger_of (get_or taken x.member.0 0) x.taken.0)) sent-by

    pub found_left : Left packet (get_or counts from.member.0 0) head.top.0
    found_left =
        subst (λ (x : Sender). Left packet (get_or counts x.member.0 0) head.top.0) (sym sent-by)
        (next_left head taken counts repeats kept marks originators lengths payloads fits packet payload room due taken' kept' originators' lengths' payloads' floor noted_by smallest cleared)

    abbrev change_by : Sender → Change
    change_by x = change_of (listed kept' originators') packet (get_or counts x.member.0 0) floor.0 head.top head.accepted (needed_of head.group) (get_or repeats x.member.0 0)

    abbrev laid_by : Sender → Change → List Message
    laid_by x c =
        set (messages_in kept' originators' lengths' payloads') (place_of c.number.0)
        (when c.number.0 ≤? head.top.0 then message_at (messages_in kept' originators' lengths' payloads') c.number.0 else message_of x.member c.count payload)

    module _ (c : Change) (changes : c ≡ change_by from) (kept'' originators'' lengths'' payloads'' : List ℕ)
        (laid : messages_in kept'' originators'' lengths'' payloads'' ≡ laid_by from c) (at : ℕ) (place : at ≡ place_of c.number.0) where
      change_by_lem : c ≡ change_by (sender_of packet)
      change_by_lem = changes ∙ ap change_by sent-by

      laid_by_lem : messages_in kept'' originators'' lengths'' payloads'' ≡ laid_by (sender_of packet) (change_by (sender_of packet))
      laid_by_lem = laid ∙ (λ i. laid_by (sent-by i) (change_by_lem i))

      pub found_sends : MaySend c.answer c.top floor (get_or (messages_in kept'' originators'' lengths'' payloads'') at blank)
      found_sends =
          subst (λ (k : ℕ). MaySend c.answer c.top floor (get_or (messages_in kept'' originators'' lengths'' payloads'') k blank)) (sym place)
          (subst (λ (x : Change). MaySend x.answer x.top floor (get_or (messages_in kept'' originators'' lengths'' payloads'') (place_of x.number.0) blank)) (sym change_by_lem)
          (next_sends head taken counts repeats kept marks originators lengths payloads fits packet payload room due taken' kept' originators' lengths' payloads' floor noted_by smallest cleared kept'' originators'' lengths'' payloads'' laid_by_lem))

      abbrev Wrote : Change → ℕ → ℕ → List ℕ → List ℕ → Type 0
      Wrote k place written x y =
          Laid (sent_of k.answer head.group k.top k.accepted floor (get_or (messages_in kept'' originators'' lengths'' payloads'') place blank)) written x y

      abbrev Gave : Sender → Change → ℕ → List ℕ → List ℕ → Type 0
      Gave s k written x y =
          Changed (accepted_step (view_of (whole head taken counts repeats kept marks originators lengths payloads)) packet payload) (record { answer = k.answer; written = written })
          (whole (record { group = head.group; top = k.top; accepted = k.accepted; floor = floor }) taken' (set counts s.member.0 k.count) (set repeats s.member.0 k.repeats) kept'' marks originators'' lengths'' payloads'') x y

      pub found_changed : confirmation_of packet ≡ None → (written : ℕ) (x y : List ℕ) → Wrote c at written x y → Gave from c written x y
      found_changed none written x y l =
          subst (λ (s : Sender). Gave s c written x y) (sym sent-by)
          (subst (λ (k : Change). Gave (sender_of packet) k written x y) (sym change_by_lem)
          (accepted_changed head taken counts repeats kept marks originators lengths payloads fits packet payload room due taken' kept' originators' lengths' payloads' floor noted_by smallest cleared kept'' originators'' lengths'' payloads'' laid_by_lem none written x y
          (subst (λ (k : Change). Wrote k (place_of k.number.0) written x y) change_by_lem (subst (λ (k : ℕ). Wrote c k written x y) place l))))

-- question 1 as the code asks it: each part of the arrays that it reads
pub sound_as : (head : Head) (taken counts repeats kept marks originators lengths payloads : List ℕ) → Fits (whole head taken counts repeats kept marks originators lengths payloads)
    → (frame_sound head.group (taken_only taken) head.floor.0 head.accepted.0 head.top.0
    and all (entry_sound head.group head.top.0) 0 (table_in taken counts repeats)
    and all_above (place_sound head.group.n (counts_only counts) (messages_in kept originators lengths payloads) head.top.0) head.floor.0 places_most
    and all_above (mark_sound (expected_of head.group) marks head.accepted.0 head.top.0) head.floor.0 places_most)
    ≡ sound_of (view_of (whole head taken counts repeats kept marks originators lengths payloads))
unfolding sound_of view_of
sound_as head taken counts repeats kept marks originators lengths payloads fits =
    let size = fits.entries.counts_size ∙ sym fits.entries.taken_size in
    let frame = frame_taken head.group taken counts repeats head.floor.0 head.accepted.0 head.top.0 in
    let places = places_only taken counts repeats size head.group.n (messages_in kept originators lengths payloads) head.top.0 in
    λ i.
    frame i and all (entry_sound head.group head.top.0) 0 (table_in taken counts repeats) and all_above (places i) head.floor.0 places_most
    and all_above (mark_sound (expected_of head.group) marks head.accepted.0 head.top.0) head.floor.0 places_most

-- the first bytes of a place, as they are lent
place_bytes : (payloads : List ℕ) (at size : ℕ) → size ≤ payload_most → take (at * payload_most + size - at * payload_most) (drop (at * payload_most) payloads) ≡ take size (part_of payloads at)
place_bytes payloads at size h =
    let e : at * payload_most + size - at * payload_most ≡ size = omega arith in
    ap (λ (k : ℕ). take k (drop (at * payload_most) payloads)) e ∙ sym (take-take size payload_most (drop (at * payload_most) payloads) h)

pub place_laid : (h : Header) (payloads : List ℕ) (at size room : ℕ) {r : ℕ} {x y : List ℕ} → size ≤ payload_most
    → Laid (write_of h (take (at * payload_most + size - at * payload_most) (drop (at * payload_most) payloads)) room).bytes r x y
    → Laid (write_of h (take size (part_of payloads at)) room).bytes r x y
place_laid h payloads at size room {r} {x} {y} short l = subst (λ (p : List ℕ). Laid (write_of h p room).bytes r x y) (place_bytes payloads at size short) l

-- a message's packet, broadcast or offered, may be written
announced_fields : (group : ℕ) (accepted : SequenceNumber) (originator : MemberNumber) (number floor : SequenceNumber) (count : ℕ) (payload : List ℕ) → 1 ≤ count → floor.0 < number.0
    → fields_verdict (fields_of group (announced accepted originator number count floor)) (length payload) payload ≡ all_yes
unfolding announced
announced_fields group accepted originator number floor count payload a b =
    when_elim (λ (packet : Packet). fields_verdict (fields_of group packet) (length payload) payload ≡ all_yes) (number.0 ≤? accepted.0)
    (λ t. broadcast_fields group originator number floor count payload a b) (λ t. offer_fields group originator number floor count payload a b)

-- the packet of the message in a place
module _ (group : ℕ) (accepted floor number : SequenceNumber) (at : ℕ) (kept originators lengths payloads : List ℕ) (inside : at < length kept) where
  abbrev placed : Message
  placed = message_in (get_or kept at 0) (get_or originators at 0) (get_or lengths at 0) (part_of payloads at)

  placed_is : get_or (messages_in kept originators lengths payloads) at blank ≡ placed
  placed_is = message_in_lem kept originators lengths payloads at inside

  pub may_send : MayBroadcast number floor (get_or (messages_in kept originators lengths payloads) at blank) → MayBroadcast number floor placed
  may_send h = subst (λ (x : Message). MayBroadcast number floor x) placed_is h

  pub announced_laid : (room : ℕ) {size : ℕ} {x y : List ℕ} → MayBroadcast number floor (get_or (messages_in kept originators lengths payloads) at blank) → longest_packet ≤ room
      → Laid (write_of (fields_of group (announced accepted (record { 0 = get_or originators at 0 }) number (get_or kept at 0) floor)) (take (get_or lengths at 0) (part_of payloads at)) room).bytes size x y
      → let m = get_or (messages_in kept originators lengths payloads) at blank in
      Laid (packet_of (fields_of group (announced accepted m.originator number m.count floor)) (payload_of m)) size x y
  unfolding payload_of
  announced_laid room {size} {x} {y} h enough l =
      let may = may_send h in
      subst (λ (m : Message). Laid (packet_of (fields_of group (announced accepted m.originator number m.count floor)) (payload_of m)) size x y) (sym placed_is)
      (laid_whole _ (payload_of placed) room
      (announced_fields group accepted placed.originator number floor placed.count (payload_of placed) may.1 may.2)
      (payload_short placed may.0) enough l)

-- a fresh state
pub fresh_view : (group : Group)
    → view_of
    (whole (record { group = group; top = record { 0 = 0 }; accepted = record { 0 = 0 }; floor = record { 0 = 0 } }) (replicate members_most 0) (replicate members_most 0)
    (replicate members_most 0) (replicate places_most 0) (replicate places_most 0) (replicate places_most 0) (replicate places_most 0) (replicate (places_most * payload_most) 0))
    ≡ fresh_sequencer group
unfolding view_of fresh_sequencer
fresh_view group =
    λ i.
    record {
      group = group;
      acknowledgements = table_none members_most i;
      top = record { 0 = 0 };
      accepted = record { 0 = 0 };
      floor = record { 0 = 0 };
      history = messages_none places_most i;
      marks = replicate places_most 0;
    }
