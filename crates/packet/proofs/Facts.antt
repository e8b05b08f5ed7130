-- What the group knows of a packet that was written: the part of demand 3's invariant that speaks of packets. Assumes nothing.
use mathlib.Core.Path.{◌≡◌, refl, sym, ◌∙◌}
use mathlib.Core.Option.{some}
use mathlib.Core.List.{List}
use Prim.Native.Nat.{ℕ, ◌≤◌}
use native.Mathlib.Nat.{le_trans}
use lib.ListN.{length}
use Rattle.group.proofs.Lists.{at}
use Rattle.message.specs.Order.{Ordered}
use Rattle.packet.specs.Laws.{Allowed}
use Rattle.packet.specs.Packet.{fields_of, packet_of}
use Rattle.packet.specs.declared.Packet.{Packet}
use Rattle.packet.specs.declared.Packet.TheVariants.{Request, Broadcast, Gap, Status, Poll, Offer, Confirm, Accept, Invitation, Reply, Result}

abbrev pub ordered : ℕ → ℕ → ℕ → List ℕ → Ordered
ordered number originator count payload = record { number = number; originator = originator; count = count; payload = payload }

-- what one terminal can say of itself: the number that it acknowledges, its reach, and the payloads that it submitted and requested
pub record Voice : Type 0 where
  pub row : ℕ
  pub reach : ℕ
  pub submitted : List (List ℕ)

-- what packets can speak of: how many must confirm a message, the order, the last accepted number, and each terminal
pub record Facts : Type 0 where
  pub needed : ℕ
  pub order : List Ordered
  pub accepted : ℕ
  pub voice : ℕ → Voice

-- every packet from i acknowledges no more than i does, every request from i has the payload of the submission with its count, every
-- confirmation from i is in its reach; every message written with a number is the order's of that number; a broadcast's number, and that
-- of an acceptance, is accepted. Nothing is offered, confirmed or so accepted where none has to confirm,
-- and nobody invites, replies or makes a group
abbrev pub Says : Facts → Packet → List ℕ → Type 0
Says f (Request sender taken count) payload = (taken.0 ≤ (f.voice sender.0).row) × (at (f.voice sender.0).submitted count ≡ some payload)
Says f (Broadcast originator number count floor) payload = (at f.order number.0 ≡ some (ordered number.0 originator.0 count payload)) × (number.0 ≤ f.accepted)
Says f (Gap sender taken first last) payload = taken.0 ≤ (f.voice sender.0).row
Says f (Status sender taken) payload = taken.0 ≤ (f.voice sender.0).row
Says f (Poll elected top floor) payload = Unit {0}
Says f (Offer originator number count floor) payload = (at f.order number.0 ≡ some (ordered number.0 originator.0 count payload)) × (1 ≤ f.needed)
Says f (Confirm sender number) payload = (number.0 ≤ (f.voice sender.0).reach) × (1 ≤ f.needed)
Says f (Accept elected number) payload = (number.0 ≤ f.accepted) × (1 ≤ f.needed)
Says f (Invitation sender attempt) payload = ⊥
Says f (Reply sender attempt number) payload = ⊥
Says f (Result sender attempt elected number) payload = ⊥

-- a packet of the group `g` that may be written, and says what is so
pub record Known (g : ℕ) (f : Facts) (bytes : List ℕ) : Type 0 where
  pub content : Packet
  pub payload : List ℕ
  pub bytes_are : bytes ≡ packet_of (fields_of g content) payload
  pub allowed : Allowed (fields_of g content) payload
  pub says : Says f content payload

-- the same of a packet that terminal i wrote, in terms of what it alone knows
abbrev pub SaysBy : ℕ → ℕ → Voice → Packet → List ℕ → Type 0
SaysBy needed i v (Request sender taken count) payload = (sender.0 ≡ i) × (taken.0 ≤ v.row) × (at v.submitted count ≡ some payload)
SaysBy needed i v (Broadcast originator number count floor) payload = ⊥
SaysBy needed i v (Gap sender taken first last) payload = (sender.0 ≡ i) × (taken.0 ≤ v.row)
SaysBy needed i v (Status sender taken) payload = (sender.0 ≡ i) × (taken.0 ≤ v.row)
SaysBy needed i v (Poll elected top floor) payload = ⊥
SaysBy needed i v (Offer originator number count floor) payload = ⊥
SaysBy needed i v (Confirm sender number) payload = (sender.0 ≡ i) × (number.0 ≤ v.reach) × (1 ≤ needed)
SaysBy needed i v (Accept elected number) payload = ⊥
SaysBy needed i v (Invitation sender attempt) payload = ⊥
SaysBy needed i v (Reply sender attempt number) payload = ⊥
SaysBy needed i v (Result sender attempt elected number) payload = ⊥

pub record KnownBy (g needed i : ℕ) (v : Voice) (bytes : List ℕ) : Type 0 where
  pub content : Packet
  pub payload : List ℕ
  pub bytes_are : bytes ≡ packet_of (fields_of g content) payload
  pub allowed : Allowed (fields_of g content) payload
  pub says : SaysBy needed i v content payload

-- what a terminal can say grows
pub record Louder (v v' : Voice) : Type 0 where
  pub row : v.row ≤ v'.row
  pub reach : v.reach ≤ v'.reach
  pub submitted : (c : ℕ) (payload : List ℕ) → at v.submitted c ≡ some payload → at v'.submitted c ≡ some payload

-- and so does what packets can speak of
pub record Grows (f f' : Facts) : Type 0 where
  pub needed : f.needed ≤ f'.needed
  pub order : (s : ℕ) (m : Ordered) → at f.order s ≡ some m → at f'.order s ≡ some m
  pub accepted : f.accepted ≤ f'.accepted
  pub voice : (i : ℕ) → Louder (f.voice i) (f'.voice i)

-- what was so stays so
module _ (f f' : Facts) (up : Grows f f') where
  says_grows : (content : Packet) (payload : List ℕ) → Says f content payload → Says f' content payload
  says_grows (Request sender taken count) payload h = (le_trans h.0 (up.voice sender.0).row, (up.voice sender.0).submitted count payload h.1)
  says_grows (Broadcast originator number count floor) payload h =
      (up.order number.0 (ordered number.0 originator.0 count payload) h.0, le_trans h.1 up.accepted)
  says_grows (Gap sender taken first last) payload h = le_trans h (up.voice sender.0).row
  says_grows (Status sender taken) payload h = le_trans h (up.voice sender.0).row
  says_grows (Poll elected top floor) payload h = tt
  says_grows (Offer originator number count floor) payload h =
      (up.order number.0 (ordered number.0 originator.0 count payload) h.0, le_trans h.1 up.needed)
  says_grows (Confirm sender number) payload h = (le_trans h.0 (up.voice sender.0).reach, le_trans h.1 up.needed)
  says_grows (Accept elected number) payload h = (le_trans h.0 up.accepted, le_trans h.1 up.needed)
  says_grows (Invitation sender attempt) payload h = absurd h
  says_grows (Reply sender attempt number) payload h = absurd h
  says_grows (Result sender attempt elected number) payload h = absurd h

  pub known_grows : (g : ℕ) (bytes : List ℕ) → Known g f bytes → Known g f' bytes
  known_grows g bytes k =
      record {
        content = k.content;
        payload = k.payload;
        bytes_are = k.bytes_are;
        allowed = k.allowed;
        says = says_grows k.content k.payload k.says;
      }

module _ (g i : ℕ) (f : Facts) where
  says_by : (content : Packet) (payload : List ℕ) → SaysBy f.needed i (f.voice i) content payload → Says f content payload
  says_by (Request sender taken count) payload h = rw h.0 (h.1, h.2)
  says_by (Broadcast originator number count floor) payload h = absurd h
  says_by (Gap sender taken first last) payload h = rw h.0 h.1
  says_by (Status sender taken) payload h = rw h.0 h.1
  says_by (Poll elected top floor) payload h = absurd h
  says_by (Offer originator number count floor) payload h = absurd h
  says_by (Confirm sender number) payload h = rw h.0 (h.1, h.2)
  says_by (Accept elected number) payload h = absurd h
  says_by (Invitation sender attempt) payload h = absurd h
  says_by (Reply sender attempt number) payload h = absurd h
  says_by (Result sender attempt elected number) payload h = absurd h

  pub known_by : (bytes : List ℕ) → KnownBy g f.needed i (f.voice i) bytes → Known g f bytes
  known_by bytes k =
      record {
        content = k.content;
        payload = k.payload;
        bytes_are = k.bytes_are;
        allowed = k.allowed;
        says = says_by k.content k.payload k.says;
      }
