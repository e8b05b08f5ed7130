-- What a line tells, out of what the functions below say: phases and their groups, and the lines that fit the output.
-- Assumes nothing.
use mathlib.Core.Path.{◌≡◌, refl, sym, ap, ◌∙◌, subst}
use mathlib.Core.Bool.{Bool}
use mathlib.Core.List.{List, [], ◌∷◌, ◌++◌, map}
use mathlib.Core.Logic.{inl, inr}
use Rattle.std.specs.Prelude.{Option, None, Some}
use Prim.Native.Nat.{ℕ, zero, suc, ◌+◌, ◌≤◌, ◌<◌, zero-le}
use native.Mathlib.Omega.{arith}
use borrow.Author.Tests.{leb-true, le-leb}
use types.Run.{OneOf}
use native.Mathlib.Numerals.{add-one}
use lib.ListN.{length, take, set, length-append, length-drop}
use lib.Seq.{take-suc-set}
use Rattle.group.proofs.Choice.{when_true, when_le, when_lt, when_nlt, when_was, both_hold, both_first, both_then}
use Rattle.group.proofs.Lists.{when_elim}
use Rattle.group.specs.Choice.{◌and◌, ◌≤?◌}
use Rattle.group.specs.Lent.{front, Laid}
use Rattle.group.specs.Limits.{members_most, longest_packet}
use Rattle.group.specs.declared.Group as group
use Rattle.member.specs.State as State
use Rattle.member.specs.View.{view_of}
use Rattle.model.specs.World.{Event, submit, repeat, status, poll, copy, hand_member, hand_sequencer, answer_of, Group, happen}
use Rattle.model.specs.World as world
use Rattle.report.specs.Print.{line_of, no_space, bad_line, fitting}
use Rattle.schedule.proofs.Laws.{command_means}
use Rattle.schedule.specs.Laws.{meant_by}
use Rattle.schedule.specs.Line.{command_of, payload_of, payload_room}
use Rattle.schedule.specs.declared.Command.{Command}
use Rattle.sequencer.specs.View as sequencerView
use Rattle.sequencer.specs.declared.Head as sequencerHead
use Rattle.simulator.proofs.Lists.{lists_snoc}
use Rattle.simulator.specs.Whole.{packets_most, list_of, Rows, terminals_of, member_at, Packets, group_of, Room, Whole}
use Rattle.simulator.specs.declared.Happening.{Happening}
use Rattle.simulator.specs.declared.Head.{Head}
use Rattle.player.specs.Feed as feed
use Rattle.player.specs.Play.{Stage, running, ended, closed, next_number, event_told, last_of}
use Rattle.player.specs.Play as play
use Rattle.player.specs.Player.{stage_in, phase_with, phase_of, taken_at, Shown, LaysLast, Does}
use Rattle.player.specs.Steps.{Fits, Performed, Tells}
use Rattle.player.specs.declared.Fed.{Fed}
use Rattle.player.specs.declared.Phase.{Phase}
use Rattle.player.specs.declared.Phase.TheVariants.{Running, Ended, Closed}
use Rattle.player.specs.declared.Told.{Told}

-- the two tests of a group's room
module _ (n count : ℕ) where
  abbrev test : Bool
  test = n ≤? members_most and count ≤? packets_most

  pub within_is : (phase : Phase) → n ≤ members_most → count ≤ packets_most → phase_with n count phase ≡ phase
  within_is phase h k = sym (when_true test phase phase Closed (both_hold (n ≤? members_most) (count ≤? packets_most) (le-leb n members_most h) (le-leb count packets_most k)) refl)

  pub within_was : (phase p : Phase) → phase_with n count phase ≡ p → (Closed ≡ p → ⊥) → (n ≤ members_most) × (count ≤ packets_most) × (phase ≡ p)
  within_was phase p e shut =
      let z = when_was test phase Closed p e shut in (
        leb-true n members_most (both_first (n ≤? members_most) (count ≤? packets_most) z.0),
        leb-true count packets_most (both_then (n ≤? members_most) (count ≤? packets_most) z.0),
        z.1,
      )

  pub within_closed : phase_with n count Closed ≡ Closed
  within_closed = when_elim (λ (p : Phase). p ≡ Closed) test (λ _. refl) (λ _. refl)

module _ (head : Head) where
  pub phase_is : (phase : Phase) → Fits head → phase_of head phase ≡ phase
  unfolding phase_of
  phase_is phase f = within_is head.sequencer.group.n head.count phase f.members f.packets

  pub phase_was : (phase p : Phase) → phase_of head phase ≡ p → (Closed ≡ p → ⊥) → Fits head × (phase ≡ p)
  unfolding phase_of
  phase_was phase p e shut =
      let z = within_was head.sequencer.group.n head.count phase p e shut in
      (record { members = z.0; packets = z.1 }, z.2)

  pub phase_closed : (g : Group) (number : ℕ) → stage_in (phase_of head Closed) g number ≡ closed
  unfolding phase_of stage_in
  phase_closed g number = ap (λ (p : Phase). stage_in p g number) (within_closed head.sequencer.group.n head.count)

pub running≢ : Closed ≡ Running → ⊥
running≢ e = let z : ◌≡◌ {A = ℕ} 0 1 = cc in omega arith

pub ended≢ : Closed ≡ Ended → ⊥
ended≢ e = let z : ◌≡◌ {A = ℕ} 0 1 = cc in omega arith

-- an output with the room asked has the line
pub fits_in : (asked room : ℕ) (bytes : List ℕ) → asked ≤ room → fitting asked room bytes ≡ bytes
unfolding fitting
fits_in asked room bytes h = sym (when_le asked room bytes bytes [] h refl)

module _ (text lent after : List ℕ) (r : Told) (w : Whole) (asked : ℕ) (fit : asked ≤ length lent)
    (written : r.written ≡ length (fitting asked (length lent) text)) (output : after ≡ front (fitting asked (length lent) text) lent) where
  abbrev Line : Stage → Type 0
  Line stage = Tells (record { text = text; stage = stage }) r w lent after

  tells : (stage : Stage) → stage_in (phase_of r.head r.phase) (group_of w) r.number ≡ stage → Line stage
  tells stage e =
      record {
        stage = e;
        written = written ∙ ap length (fits_in asked (length lent) text fit);
        output = output ∙ ap (λ (bytes : List ℕ). front bytes lent) (fits_in asked (length lent) text fit);
      }

  pub tells_closed : r.phase ≡ Closed → Line closed
  tells_closed e = tells closed (ap (λ (p : Phase). stage_in (phase_of r.head p) (group_of w) r.number) e ∙ phase_closed r.head (group_of w) r.number)

  pub tells_ended : Fits r.head → r.phase ≡ Ended → Line (ended (group_of w))
  unfolding stage_in
  tells_ended f e =
      tells (ended (group_of w))
      (ap (λ (p : Phase). stage_in (phase_of r.head p) (group_of w) r.number) e
      ∙ ap (λ (p : Phase). stage_in p (group_of w) r.number) (phase_is r.head Ended f))

-- what is told is the same
pub as_told : {x y : play.Told} {r : Told} {w : Whole} {lent after : List ℕ} → x ≡ y → Tells x r w lent after → Tells y r w lent after
as_told {x} {y} {r} {w} {lent} {after} e t = subst (λ (z : play.Told). Tells z r w lent after) e t

-- a line that prints nothing
pub tells_nothing : (r : Told) (w : Whole) (stage : Stage) (lent : List ℕ) → stage_in (phase_of r.head r.phase) (group_of w) r.number ≡ stage → r.written ≡ 0
    → Tells (record { text = []; stage = stage }) r w lent lent
tells_nothing r w stage lent e z = record { stage = e; written = z; output = refl }

-- the event of a line that was read
pub meant_is : (event : Option Event) (command : Option Command) (payload lent : List ℕ) → command ≡ command_of event → payload ≡ front (payload_of event) lent
    → meant_by command payload ≡ event
meant_is event command payload lent c p = rw (c, p) (command_means event lent)

-- the bytes that a line was read to keep their length
pub payload_length : (event : Option Event) (lent : List ℕ) {after : List ℕ} → ((i size : ℕ) → command_of event ≡ Some (Command.Submit i size) → size ≤ payload_room) → length lent ≡ payload_room
    → after ≡ front (payload_of event) lent → length after ≡ payload_room
unfolding command_of payload_of
payload_length event lent {after} fits n e = ap length e ∙ go event fits
  where
    go : (event : Option Event) → ((i size : ℕ) → command_of event ≡ Some (Command.Submit i size) → size ≤ payload_room) → length (front (payload_of event) lent) ≡ payload_room
    go None f = n
    go (Some (submit i payload)) f = let z = f i (length payload) refl in simp (length-append, length-drop) (omega arith)
    go (Some (repeat i)) f = n
    go (Some (world.take i)) f = n
    go (Some (status i)) f = n
    go (Some poll) f = n
    go (Some (copy number)) f = n
    go (Some (hand_member k i)) f = n
    go (Some (hand_sequencer k)) f = n

-- what was performed is the same
pub as_performed : {x y : Option Event} (head : Head) (w w' : Whole) (h : Happening) (before after : List ℕ) → x ≡ y → Performed x head w h w' before after → Performed y head w h w' before after
as_performed head w w' h before after e p = subst (λ (z : Option Event). Performed z head w h w' before after) e p

-- a call writes at most a packet
pub performed_size : (event : Option Event) (head : Head) (w w' : Whole) (h : Happening) (before after : List ℕ) → Performed event head w h w' before after → h.written ≤ longest_packet
unfolding Performed
performed_size None head w w' h before after p = rw p zero-le
performed_size (Some event) head w w' h before after p = p.size

-- a line of another form is no event
other≢ : (event : Event) → command_of (Some event) ≡ None → ⊥
unfolding command_of
other≢ (submit i payload) e = let z : ◌≡◌ {A = ℕ} 0 1 = cc in omega arith
other≢ (repeat i) e = let z : ◌≡◌ {A = ℕ} 0 1 = cc in omega arith
other≢ (world.take i) e = let z : ◌≡◌ {A = ℕ} 0 1 = cc in omega arith
other≢ (status i) e = let z : ◌≡◌ {A = ℕ} 0 1 = cc in omega arith
other≢ poll e = let z : ◌≡◌ {A = ℕ} 0 1 = cc in omega arith
other≢ (copy number) e = let z : ◌≡◌ {A = ℕ} 0 1 = cc in omega arith
other≢ (hand_member k i) e = let z : ◌≡◌ {A = ℕ} 0 1 = cc in omega arith
other≢ (hand_sequencer k) e = let z : ◌≡◌ {A = ℕ} 0 1 = cc in omega arith

pub some_event : (event : Option Event) (command : Command) → Some command ≡ command_of event → command_of event ≡ None → ⊥
some_event event command e n = let o : Some command ≡ None = e ∙ n in let z : ◌≡◌ {A = ℕ} 0 1 = cc in omega arith

pub other_is : (event : Option Event) → command_of event ≡ None → event ≡ None
other_is None e = refl
other_is (Some event) e = absurd (other≢ event e)

-- what an event leaves, and its line
pub record Happens (h : Happening) (bytes : List ℕ) (number index : ℕ) (r : Told) (lent after : List ℕ) : Type 0 where
  pub head : r.head ≡ h.head
  pub next : r.number ≡ next_number number
  pub phase : r.phase ≡ Running
  pub written : r.written ≡ length (line_of number (answer_of h.reply (take h.written bytes)) index)
  pub output : after ≡ front (line_of number (answer_of h.reply (take h.written bytes)) index) lent

-- a line of another form, an event without space, an event
module _ (w : Whole) (number : ℕ) (event : Option Event) where
  abbrev g : Group
  g = group_of w

  pub told_other : command_of event ≡ None → record { text = bad_line number; stage = ended g } ≡ event_told g number event
  unfolding event_told
  told_other e = ap (λ (x : Option Event). event_told g number x) (sym (other_is event e))

  pub told_full : (command_of event ≡ None → ⊥) → packets_most ≤ length g.packets
      → record { text = no_space number; stage = ended g } ≡ event_told g number event
  unfolding event_told command_of
  told_full = go event
    where
      go : (event : Option Event) → (command_of event ≡ None → ⊥) → packets_most ≤ length g.packets
          → record { text = no_space number; stage = ended g } ≡ event_told g number event
      go None o h = absurd (o refl)
      go (Some e) o h = when_nlt (length g.packets) packets_most _ _ _ h refl

  pub told_event : (command_of event ≡ None → ⊥) → (head : Head) → Fits head → head.count ≡ length g.packets → head.count < packets_most → (h : Happening) (w' : Whole) (before bytes : List ℕ)
      → Performed event head w h w' before bytes → (r : Told) (lent after : List ℕ) → Happens h bytes number head.count r lent after → Tells (event_told g number event) r w' lent after
  unfolding event_told command_of Performed stage_in
  told_event = go event
    where
      go : (event : Option Event) → (command_of event ≡ None → ⊥) → (head : Head) → Fits head → head.count ≡ length g.packets → head.count < packets_most → (h : Happening) (w' : Whole) (before bytes : List ℕ)
          → Performed event head w h w' before bytes → (r : Told) (lent after : List ℕ) → Happens h bytes number head.count r lent after → Tells (event_told g number event) r w' lent after
      go None o head f n s h w' before bytes p r lent after t = absurd (o refl)
      go (Some e) o head f n s h w' before bytes p r lent after t =
          let room : Room head = record { packets = s; members = f.members } in
          let fits : Fits h.head = record { members = let z = f.members in rw p.same z; packets = let z = p.most in omega arith } in
          let line : line_of number (answer_of h.reply (take h.written bytes)) head.count ≡ line_of number (happen g e).answer (length g.packets) =
          ap (λ (a : world.Answer). line_of number a head.count) (p.answer room) ∙ ap (λ (k : ℕ). line_of number (happen g e).answer k) n in
          let told : Tells (record { text = line_of number (happen g e).answer (length g.packets); stage = running (happen g e).group (next_number number) }) r w' lent after =
          record {
            stage =
                ap (λ (p : Phase). stage_in (phase_of r.head p) (group_of w') r.number) t.phase
                ∙ ap (λ (x : Head). stage_in (phase_of x Running) (group_of w') r.number) t.head
                ∙ ap (λ (p : Phase). stage_in p (group_of w') r.number) (phase_is h.head Running fits)
                ∙ ap (λ (g : Group). running g r.number) (p.group room)
                ∙ ap (λ (k : ℕ). running (happen g e).group k) t.next;
            written = t.written ∙ ap length line;
            output = t.output ∙ ap (λ (bytes : List ℕ). front bytes lent) line;
          } in
          let is : record { text = line_of number (happen g e).answer (length g.packets); stage = running (happen g e).group (next_number number) } ≡ event_told g number (Some e) =
          when_lt (length g.packets) packets_most _ _ _ (omega arith) refl in
          subst (λ (x : play.Told). Tells x r w' lent after) is told

-- a tag from 1 on is not 0
unfoldable pub positive : List ℕ → Type 0
positive [] = Unit {0}
positive (k ∷ ks) = (1 ≤ k) × positive ks

pub no_key : (k : ℕ) (ks : List ℕ) → positive (k ∷ ks) → OneOf (k ∷ ks) 0 → ⊥
unfolding positive
no_key k [] p e = let z = p.0 in omega arith
no_key k (j ∷ ks) p (inl e) = let z = p.0 in omega arith
no_key k (j ∷ ks) p (inr o) = no_key j ks p.1 o

pub event_key : OneOf (1 ∷ 2 ∷ 3 ∷ 4 ∷ 5 ∷ 6 ∷ 7 ∷ 8 ∷ []) 0 → ⊥
unfolding positive
event_key = no_key 1 (2 ∷ 3 ∷ 4 ∷ 5 ∷ 6 ∷ 7 ∷ 8 ∷ []) (omega arith, (omega arith, (omega arith, (omega arith, (omega arith, (omega arith, (omega arith, (omega arith, tt))))))))

-- one member more
pub taken_on : (f : ℕ → ℕ) (taken : List ℕ) (i : ℕ) → i < length taken → take i taken ≡ list_of f 0 i → take (i + 1) (set taken i (f i)) ≡ list_of f 0 (i + 1)
taken_on f taken i h e =
    ap (λ (k : ℕ). take k (set taken i (f i))) (add-one i)
    ∙ take-suc-set taken i (f i) h
    ∙ ap (λ (l : List ℕ). l ++ (f i ∷ [])) e
    ∙ sym (lists_snoc f i)

-- what the members took, by their rows
taken_list : (g : group.Group) (numbers : List (List ℕ)) (rows : Rows) (i k : ℕ)
    → map (λ (m : State.Member). m.taken.0) (list_of (member_at (terminals_of g numbers rows)) i k) ≡ list_of (taken_at numbers) i k
unfolding list_of member_at view_of
taken_list g numbers rows i zero = refl
taken_list g numbers rows i (suc k) = ap (λ (l : List ℕ). taken_at numbers i ∷ l) (taken_list g numbers rows (i + 1) k)

-- the group that is run is shown by its head and its rows
pub shown_of : (head : Head) (s : sequencerView.Stored) (numbers : List (List ℕ)) (rows : Rows) (p : Packets) → s.head ≡ head.sequencer
    → Shown head numbers (group_of (record { sequencer = s; terminals = terminals_of head.sequencer.group numbers rows; packets = p }))
unfolding sequencerView.view_of
shown_of head s numbers rows p e =
    record {
      top = ap (λ (h : sequencerHead.Head). h.top) e;
      floor = ap (λ (h : sequencerHead.Head). h.floor) e;
      members = taken_list head.sequencer.group numbers rows 0 head.sequencer.group.n;
    }

-- the last line of a player that did what was told
pub last_told_lem : {told : feed.Fed} {r : Fed} {s : sequencerView.Stored} {numbers : List (List ℕ)} {rows : Rows} {p : Packets} {line lent after before behind : List ℕ} {size : ℕ}
    → Does told r (record { sequencer = s; terminals = terminals_of r.player.head.sequencer.group numbers rows; packets = p }) line lent after
    → LaysLast r.player numbers size before behind → s.head ≡ r.player.head.sequencer → Laid (last_of told.state.stage) size before behind
last_told_lem {told} {r} {s} {numbers} {rows} {p} {line} {lent} {after} {before} {behind} {size} d l e =
    let k = l (group_of (record { sequencer = s; terminals = terminals_of r.player.head.sequencer.group numbers rows; packets = p })) (shown_of r.player.head s numbers rows p e) in
    let is = ap (λ (x : feed.State). last_of x.stage) d.state in
    record { size = k.size ∙ ap length is; lent = k.lent ∙ ap (λ (bytes : List ℕ). front bytes before) is }
