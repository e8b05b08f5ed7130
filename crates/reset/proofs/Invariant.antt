-- The invariant of a world with resets: the group made last as its survivors are in it, each survivor's terminal, the open attempt, and the packets.
-- Assumes nothing.
use Rattle.std.specs.Prelude.{Ok}
use mathlib.Core.Path.{◌≡◌, refl, sym, ◌∙◌, subst}
use mathlib.Core.Logic.{◌≢◌, ◌⊎◌, inl, inr}
use mathlib.Core.Bool.{true, false, false≢true}
use mathlib.Core.Option.{some}
use mathlib.Core.List.{List, [], ◌∷◌}
use Prim.Native.Nat.{ℕ, ◌≤◌, ◌<◌}
use borrow.Author.Tests.{eq-eqb}
use lib.ListN.{get_or, take, get_elem?}
use Rattle.group.proofs.Lists.{All}
use Rattle.group.specs.Limits.{largest_number}
use Rattle.group.specs.Members.{is_in}
use Rattle.group.specs.declared.Group as description
use Rattle.message.specs.Order.{Ordered}
use Rattle.member.specs.State.{reach_of}
use Rattle.packet.specs.Laws.{Allowed}
use Rattle.packet.specs.Packet.{read_of, content_of, fields_of, packet_of, survivors_in}
use Rattle.packet.specs.declared.Header.{Header}
use Rattle.packet.specs.declared.Packet.{Packet}
use Rattle.packet.specs.Answers.{Reading}
use Rattle.sequencer.proofs.Invariant.{SequencerInv}
use Rattle.recovery.specs.Calls as terminal
use Rattle.recovery.specs.Laws as terminalLaws
use Rattle.recovery.specs.Sound.{terminal_sound}
use Rattle.recovery.specs.State.{Reset, Terminal, serves, reply_number}
use Rattle.reset.specs.Course.{Course, Fresh, other}
use Rattle.reset.proofs.Remembering.{Remembers}
use Rattle.reset.proofs.Seen.{Seen}
use Rattle.reset.proofs.View.{member_of, sequencer_of}

-- a number is in a list
abbrev pub Has : ℕ → List ℕ → Type 0
Has x [] = ⊥
Has x (y ∷ l) = (x ≡ y) ⊎ Has x l

pub has_fresh : (x : ℕ) (l : List ℕ) → Has x l → Fresh x l → ⊥
has_fresh x [] h f = h
has_fresh x (y ∷ l) (inl e) (other q f) = false≢true (sym q ∙ eq-eqb x y e)
has_fresh x (y ∷ l) (inr h) (other q f) = has_fresh x l h f

pub has_all : (P : ℕ → Type 0) (x : ℕ) (l : List ℕ) → All P l → Has x l → P x
has_all P x [] a h = absurd h
has_all P x (y ∷ l) a (inl e) = subst P (sym e) a.0
has_all P x (y ∷ l) a (inr h) = has_all P x l a.1 h

-- an attempt is open
abbrev pub Busy : Course → Type 0
Busy c = c.attempt ≢ c.number

-- a number in use that is neither the group's nor the open attempt's
pub record Foreign (c : Course) (x : ℕ) : Type 0 where
  pub used : Has x c.used
  pub unlike : x ≢ c.number
  pub unmade : x ≢ c.attempt

-- the description of the group made last
abbrev pub group_in : ℕ → ℕ → Course → description.Group
group_in n resilience c =
    record { n = n; resilience = resilience; survivors = c.survivors; elected = record { 0 = c.elected }; number = c.number }

-- a floor that no survivor's reach is below
abbrev pub Low : ℕ → ℕ → Course → ℕ → (ℕ → Terminal) → ℕ → Type 0
Low n resilience c cut at x = (j : ℕ) → is_in c.survivors j ≡ true → x ≤ reach_of (member_of (group_in n resilience c) cut (at j))

-- a survivor's terminal, where the group was made under a number and began with the first `cut` of the order
pub record Survivor (n resilience : ℕ) (c : Course) (under cut : ℕ) (low : ℕ → Type 0) (i : ℕ) (t : Terminal) : Type 0 where
  pub sound : terminal_sound t ≡ true
  pub typed : terminalLaws.Typed t
  pub invited : t.reset.invited ≤ largest_number
  pub size : t.member.group.n ≡ n
  pub resilient : t.member.group.resilience ≡ resilience
  pub itself : t.member.number.0 ≡ i
  -- what it can begin a group with
  pub remembers : Remembers t.member.taken.0 t.kept c.order
  pub serving : serves t ≡ true → SequencerInv t.sequencer.group t.sequencer (take t.sequencer.top.0 c.order)
  pub reach_le : reach_of t.member ≤ reply_number t
  pub floor_low : serves t ≡ true → low t.sequencer.floor.0
  pub read_low : low t.kept.read.0
  -- with the result
  pub calm : t.member.group.number ≡ c.number → c.attempt ≡ c.number → t.reset.replied ≡ false
  -- without it
  pub under_is : t.member.group.number ≢ c.number → t.member.group.number ≡ under
  pub foreign : t.member.group.number ≢ c.number → Foreign c t.member.group.number
  pub waits : t.member.group.number ≢ c.number → t.reset.replied ≡ true
  pub reply_le : t.member.group.number ≢ c.number → reply_number t ≤ cut
  -- only the elected one's numbers
  pub awake : t.sequencing ≡ true → t.frozen ≡ false → (i ≡ c.elected) × (t.sequencer.group.number ≡ c.number)
  pub present : i ≡ c.elected → t.member.group.number ≡ c.number → t.sequencing ≡ true
  pub wakes : i ≡ c.elected → t.member.group.number ≡ c.number → c.attempt ≡ c.number → t.frozen ≡ false
  pub cut_is : i ≡ c.elected → t.member.group.number ≢ c.number → reply_number t ≡ cut

-- any terminal
pub record Sits (n resilience : ℕ) (c : Course) (under cut : ℕ) (low : ℕ → Type 0) (i : ℕ) (t : Terminal) : Type 0 where
  pub lost : is_in c.survivors i ≡ false → Foreign c t.member.group.number
  pub old : t.sequencing ≡ true → t.sequencer.group.number ≢ c.number → Foreign c t.sequencer.group.number
  pub only : t.sequencing ≡ true → t.sequencer.group.number ≡ c.number → (i ≡ c.elected) × (t.member.group.number ≡ c.number)
  pub survivor : is_in c.survivors i ≡ true → Survivor n resilience c under cut low i t

-- terminal j replied to the open attempt, and still does
pub record Answered (c : Course) (at : ℕ → Terminal) (j number : ℕ) : Type 0 where
  pub survives : is_in c.survivors j ≡ true
  pub group_is : (at j).member.group.number ≡ (at c.initiator).member.group.number
  pub replied : (at j).reset.replied ≡ true
  pub attempt_is : (at j).reset.attempt ≡ c.attempt
  pub number_is : reply_number (at j) ≡ number

-- the initiator's part in the open attempt
pub record Open (c : Course) (at : ℕ → Terminal) (r : Reset) : Type 0 where
  pub inviting : r.inviting ≡ true
  pub invited_is : r.invited ≡ c.attempt
  pub itself : is_in r.repliers c.initiator ≡ true
  pub answered : (j : ℕ) → is_in r.repliers j ≡ true → Answered c at j (get_or r.replies j 0)

-- the packets of a reset, under a number
pub record GoodInvitation (c : Course) (at : ℕ → Terminal) (number sender attempt : ℕ) : Type 0 where
  pub used : Has attempt c.used
  pub group_is : attempt ≡ c.attempt → Busy c → number ≡ (at c.initiator).member.group.number
  pub sender_is : attempt ≡ c.attempt → Busy c → sender ≡ c.initiator
  pub over : attempt ≡ c.attempt → c.attempt ≡ c.number → number ≢ c.number

pub record GoodReply (c : Course) (at : ℕ → Terminal) (sender attempt number : ℕ) : Type 0 where
  pub used : Has attempt c.used
  pub answered : attempt ≡ c.attempt → Busy c → Answered c at sender number

pub record GoodResult (c : Course) (under cut number attempt elected last survivors : ℕ) : Type 0 where
  pub used : Has attempt c.used
  pub made : attempt ≡ c.attempt → c.attempt ≡ c.number
  pub group_is : attempt ≡ c.attempt → number ≡ under
  pub unlike : attempt ≡ c.attempt → number ≢ c.number
  pub elected_is : attempt ≡ c.attempt → elected ≡ c.elected
  pub cut_is : attempt ≡ c.attempt → last ≡ cut
  pub survivors_are : attempt ≡ c.attempt → survivors ≡ c.survivors

abbrev pub SaysReset : Course → (ℕ → Terminal) → ℕ → ℕ → ℕ → Packet → List ℕ → Type 0
SaysReset c at under cut number (Packet.Request sender taken count) payload = ⊥
SaysReset c at under cut number (Packet.Broadcast originator k count floor) payload = ⊥
SaysReset c at under cut number (Packet.Gap sender taken first last) payload = ⊥
SaysReset c at under cut number (Packet.Status sender taken) payload = ⊥
SaysReset c at under cut number (Packet.Poll elected top floor) payload = ⊥
SaysReset c at under cut number (Packet.Offer originator k count floor) payload = ⊥
SaysReset c at under cut number (Packet.Confirm sender k) payload = ⊥
SaysReset c at under cut number (Packet.Accept elected k) payload = ⊥
SaysReset c at under cut number (Packet.Invitation sender attempt) payload = GoodInvitation c at number sender.0 attempt
SaysReset c at under cut number (Packet.Reply sender attempt k) payload = GoodReply c at sender.0 attempt k.0
SaysReset c at under cut number (Packet.Result sender attempt elected k) payload = GoodResult c under cut number attempt elected.0 k.0 (survivors_in payload)

pub record Resets (c : Course) (at : ℕ → Terminal) (under cut : ℕ) (p : List ℕ) : Type 0 where
  pub number : ℕ
  pub content : Packet
  pub payload : List ℕ
  pub bytes_are : p ≡ packet_of (fields_of number content) payload
  pub allowed : Allowed (fields_of number content) payload
  pub says : SaysReset c at under cut number content payload

-- a packet of another number, and not of a reset
abbrev pub Elsewhere : Course → List ℕ → Type 0
Elsewhere c p = (h : Header) → read_of p ≡ Ok h → (terminal.of_reset (content_of h) ≡ false) × Foreign c h.group

-- a packet that was written: one of the group made last, one of another, or one of a reset
pub data Covered (c : Course) (at : ℕ → Terminal) (under cut : ℕ) (known : List (List ℕ)) (p : List ℕ) : Type 0 where
  ours : (j : ℕ) → get_elem? known j ≡ some p → Covered c at under cut known p
  elsewhere : Elsewhere c p → Covered c at under cut known p
  resets : Resets c at under cut p → Covered c at under cut known p

-- what a packet says of the floor
abbrev pub FloorLow : (ℕ → Type 0) → List ℕ → Type 0
FloorLow low p = (h : Header) → read_of p ≡ Ok h → low (terminal.floor_in (content_of h))

-- the world under a course, what each terminal took and submitted
pub record Inv (n resilience line : ℕ) (c : Course) (at : ℕ → Terminal) (packets : List (List ℕ)) (tk : ℕ → List Ordered) (sb : ℕ → List (List ℕ)) : Type 0 where
  pub cut : ℕ
  pub under : ℕ
  pub lost : ℕ → List (List ℕ)
  pub known : List (List ℕ)
  pub seen : Seen (group_in n resilience c) line (sequencer_of (group_in n resilience c) cut (at c.elected)) (λ j. member_of (group_in n resilience c) cut (at j)) c.order tk sb lost known
  pub line_le : line ≤ (sequencer_of (group_in n resilience c) cut (at c.elected)).accepted.0
  pub cut_le : cut ≤ (sequencer_of (group_in n resilience c) cut (at c.elected)).accepted.0
  pub number_used : Has c.number c.used
  pub attempt_used : Has c.attempt c.used
  pub used_fit : All (λ x. x ≤ largest_number) c.used
  pub sits : (i : ℕ) → i < n → Sits n resilience c under cut (Low n resilience c cut at) i (at i)
  pub initiates : Busy c → is_in c.survivors c.initiator ≡ true
  pub opened : Busy c → Open c at (at c.initiator).reset
  pub shut : c.attempt ≡ c.number → (at c.initiator).reset.inviting ≡ false
  pub floors : All (FloorLow (Low n resilience c cut at)) known
  pub covered : All (Covered c at under cut known) packets

-- the course with another order
abbrev pub with_order : Course → List Ordered → Course
with_order c order =
    record {
      order = order;
      survivors = c.survivors;
      elected = c.elected;
      number = c.number;
      attempt = c.attempt;
      initiator = c.initiator;
      used = c.used;
    }

-- what an event leaves of a terminal, as far as an open attempt counts on it
pub record Goes (c : Course) (i : ℕ) (t t' : Terminal) : Type 0 where
  pub group : Busy c → t'.member.group.number ≡ t.member.group.number
  pub answers : is_in c.survivors i ≡ true → Busy c → t.reset.replied ≡ true → t.reset.attempt ≡ c.attempt
      → (t'.reset.replied ≡ true) × (t'.reset.attempt ≡ c.attempt) × (reply_number t' ≡ reply_number t)

pub same_goes : (c : Course) (i : ℕ) (t : Terminal) → Goes c i t t
same_goes c i t = record { group = λ _. refl; answers = λ _ _ r a. (r, a, refl) }
