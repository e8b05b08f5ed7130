-- What a line tells, out of what the functions below say: phases and their worlds, and the lines that fit the output.
-- Assumes nothing.
use mathlib.Core.Path.{◌≡◌, refl, sym, ap, ◌∙◌, subst}
use mathlib.Core.List.{List, []}
use Rattle.std.specs.Prelude.{Option, None, Some}
use Prim.Native.Nat.{ℕ, ◌≤◌, ◌<◌, zero-le}
use native.Mathlib.Omega.{arith}
use lib.ListN.{length, take, length-append, length-drop}
use Rattle.group.proofs.Choice.{when_lt, when_nlt}
use Rattle.group.specs.Lent.{front}
use Rattle.group.specs.Limits.{longest_packet}
use Rattle.model.specs.World.{Answer, answer_of}
use Rattle.player.proofs.Telling.{within_is, within_was, within_closed, fits_in}
use Rattle.player.specs.Play.{next_number}
use Rattle.player.specs.declared.Phase.{Phase}
use Rattle.player.specs.declared.Phase.TheVariants.{Running, Ended, Closed}
use Rattle.report.specs.Print.{line_of, no_space, bad_line, fitting}
use Rattle.reset.specs.World as world
use Rattle.reset.specs.World.{Event, submit, repeat, status, poll, copy, hand_member, hand_sequencer, invite, make, Group, happen}
use Rattle.reset_schedule.proofs.Laws.{command_means}
use Rattle.reset_schedule.specs.Laws.{meant_by}
use Rattle.reset_schedule.specs.Line.{command_of, payload_of}
use Rattle.reset_schedule.specs.declared.Command.{Command}
use Rattle.reset_simulator.specs.Whole.{group_of, Room, Whole}
use Rattle.reset_simulator.specs.declared.Happening.{Happening}
use Rattle.reset_simulator.specs.declared.World.{World}
use Rattle.schedule.specs.Line.{payload_room}
use Rattle.simulator.specs.Whole.{packets_most}
use Rattle.reset_player.specs.Player.{stage_in, phase_of}
use Rattle.reset_output.specs.Recover as recover
use Rattle.reset_output.specs.Recover.{Stage, running, ended, closed, event_told}
use Rattle.reset_player.specs.Steps.{Fits, Performed, Tells}
use Rattle.reset_player.specs.declared.Told.{Told}

-- the phase of a world
module _ (w : World) where
  pub phase_is : (phase : Phase) → Fits w → phase_of w phase ≡ phase
  unfolding phase_of
  phase_is phase f = within_is w.n w.count phase f.terminals f.packets

  pub phase_was : (phase p : Phase) → phase_of w phase ≡ p → (Closed ≡ p → ⊥) → Fits w × (phase ≡ p)
  unfolding phase_of
  phase_was phase p e shut =
      let z = within_was w.n w.count phase p e shut in
      (record { terminals = z.0; packets = z.1 }, z.2)

  pub phase_closed : (g : Group) (number : ℕ) → stage_in (phase_of w Closed) g number ≡ closed
  unfolding phase_of stage_in
  phase_closed g number = ap (λ (p : Phase). stage_in p g number) (within_closed w.n w.count)

module _ (text lent after : List ℕ) (r : Told) (w : Whole) (asked : ℕ) (fit : asked ≤ length lent)
    (written : r.written ≡ length (fitting asked (length lent) text)) (output : after ≡ front (fitting asked (length lent) text) lent) where
  abbrev Line : Stage → Type 0
  Line stage = Tells (record { text = text; stage = stage }) r w lent after

  tells : (stage : Stage) → stage_in (phase_of r.world r.phase) (group_of w) r.number ≡ stage → Line stage
  tells stage e =
      record {
        stage = e;
        written = written ∙ ap length (fits_in asked (length lent) text fit);
        output = output ∙ ap (λ (bytes : List ℕ). front bytes lent) (fits_in asked (length lent) text fit);
      }

  pub tells_closed : r.phase ≡ Closed → Line closed
  tells_closed e = tells closed (ap (λ (p : Phase). stage_in (phase_of r.world p) (group_of w) r.number) e ∙ phase_closed r.world (group_of w) r.number)

  pub tells_ended : Fits r.world → r.phase ≡ Ended → Line (ended (group_of w))
  unfolding stage_in
  tells_ended f e =
      tells (ended (group_of w))
      (ap (λ (p : Phase). stage_in (phase_of r.world p) (group_of w) r.number) e
      ∙ ap (λ (p : Phase). stage_in p (group_of w) r.number) (phase_is r.world Ended f))

-- what is told is the same
pub as_told : {x y : recover.Told} {r : Told} {w : Whole} {lent after : List ℕ} → x ≡ y → Tells x r w lent after → Tells y r w lent after
as_told {x} {y} {r} {w} {lent} {after} e t = subst (λ (z : recover.Told). Tells z r w lent after) e t

-- a line that prints nothing
pub tells_nothing : (r : Told) (w : Whole) (stage : Stage) (lent : List ℕ) → stage_in (phase_of r.world r.phase) (group_of w) r.number ≡ stage → r.written ≡ 0
    → Tells (record { text = []; stage = stage }) r w lent lent
tells_nothing r w stage lent e z = record { stage = e; written = z; output = refl }

-- the event of a line that was read
pub meant_is : (event : Option Event) (command : Option Command) (payload lent : List ℕ) → command ≡ command_of event → payload ≡ front (payload_of event) lent
    → meant_by command payload ≡ event
meant_is event command payload lent c p = rw (c, p) (command_means event lent)

-- the bytes that a line was read to keep their length
pub payload_length : (event : Option Event) (lent : List ℕ) {after : List ℕ} → ((i size : ℕ) → command_of event ≡ Some (Command.Submit i size) → size ≤ payload_room) → length lent ≡ payload_room
    → after ≡ front (payload_of event) lent → length after ≡ payload_room
unfolding command_of payload_of
payload_length event lent {after} fits n e = ap length e ∙ go event fits
  where
    go : (event : Option Event) → ((i size : ℕ) → command_of event ≡ Some (Command.Submit i size) → size ≤ payload_room) → length (front (payload_of event) lent) ≡ payload_room
    go None f = n
    go (Some (submit i payload)) f = let z = f i (length payload) refl in simp (length-append, length-drop) (omega arith)
    go (Some (repeat i)) f = n
    go (Some (world.take i)) f = n
    go (Some (status i)) f = n
    go (Some (poll i)) f = n
    go (Some (copy i number)) f = n
    go (Some (hand_member k i)) f = n
    go (Some (hand_sequencer k i)) f = n
    go (Some (invite i number)) f = n
    go (Some (make i demand)) f = n

-- a call writes at most a packet
pub performed_size : (event : Option Event) (w₀ : World) (w w' : Whole) (h : Happening) (before after : List ℕ) → Performed event w₀ w h w' before after → h.written ≤ longest_packet
unfolding Performed
performed_size None w₀ w w' h before after p = rw p zero-le
performed_size (Some event) w₀ w w' h before after p = p.size

-- a line of another form is no event
other≢ : (event : Event) → command_of (Some event) ≡ None → ⊥
unfolding command_of
other≢ (submit i payload) e = let z : ◌≡◌ {A = ℕ} 0 1 = cc in omega arith
other≢ (repeat i) e = let z : ◌≡◌ {A = ℕ} 0 1 = cc in omega arith
other≢ (world.take i) e = let z : ◌≡◌ {A = ℕ} 0 1 = cc in omega arith
other≢ (status i) e = let z : ◌≡◌ {A = ℕ} 0 1 = cc in omega arith
other≢ (poll i) e = let z : ◌≡◌ {A = ℕ} 0 1 = cc in omega arith
other≢ (copy i number) e = let z : ◌≡◌ {A = ℕ} 0 1 = cc in omega arith
other≢ (hand_member k i) e = let z : ◌≡◌ {A = ℕ} 0 1 = cc in omega arith
other≢ (hand_sequencer k i) e = let z : ◌≡◌ {A = ℕ} 0 1 = cc in omega arith
other≢ (invite i number) e = let z : ◌≡◌ {A = ℕ} 0 1 = cc in omega arith
other≢ (make i demand) e = let z : ◌≡◌ {A = ℕ} 0 1 = cc in omega arith

pub some_event : (event : Option Event) (command : Command) → Some command ≡ command_of event → command_of event ≡ None → ⊥
some_event event command e n = let o : Some command ≡ None = e ∙ n in let z : ◌≡◌ {A = ℕ} 0 1 = cc in omega arith

pub other_is : (event : Option Event) → command_of event ≡ None → event ≡ None
other_is None e = refl
other_is (Some event) e = absurd (other≢ event e)

-- what an event leaves, and its line
pub record Happens (h : Happening) (bytes : List ℕ) (number index : ℕ) (r : Told) (lent after : List ℕ) : Type 0 where
  pub world : r.world ≡ h.world
  pub next : r.number ≡ next_number number
  pub phase : r.phase ≡ Running
  pub written : r.written ≡ length (line_of number (answer_of h.reply (take h.written bytes)) index)
  pub output : after ≡ front (line_of number (answer_of h.reply (take h.written bytes)) index) lent

-- a line of another form, an event without space, an event
module _ (w : Whole) (number : ℕ) (event : Option Event) where
  abbrev g : Group
  g = group_of w

  pub told_other : command_of event ≡ None → record { text = bad_line number; stage = ended g } ≡ event_told g number event
  unfolding event_told
  told_other e = ap (λ (x : Option Event). event_told g number x) (sym (other_is event e))

  pub told_full : (command_of event ≡ None → ⊥) → packets_most ≤ length g.packets
      → record { text = no_space number; stage = ended g } ≡ event_told g number event
  unfolding event_told command_of
  told_full = go event
    where
      go : (event : Option Event) → (command_of event ≡ None → ⊥) → packets_most ≤ length g.packets
          → record { text = no_space number; stage = ended g } ≡ event_told g number event
      go None o h = absurd (o refl)
      go (Some e) o h = when_nlt (length g.packets) packets_most _ _ _ h refl

  pub told_event : (command_of event ≡ None → ⊥) → (w₀ : World) → Fits w₀ → w₀.count ≡ length g.packets → w₀.count < packets_most → (h : Happening) (w' : Whole) (before bytes : List ℕ)
      → Performed event w₀ w h w' before bytes → (r : Told) (lent after : List ℕ) → Happens h bytes number w₀.count r lent after → Tells (event_told g number event) r w' lent after
  unfolding event_told command_of Performed stage_in
  told_event = go event
    where
      go : (event : Option Event) → (command_of event ≡ None → ⊥) → (w₀ : World) → Fits w₀ → w₀.count ≡ length g.packets → w₀.count < packets_most → (h : Happening) (w' : Whole) (before bytes : List ℕ)
          → Performed event w₀ w h w' before bytes → (r : Told) (lent after : List ℕ) → Happens h bytes number w₀.count r lent after → Tells (event_told g number event) r w' lent after
      go None o w₀ f n s h w' before bytes p r lent after t = absurd (o refl)
      go (Some e) o w₀ f n s h w' before bytes p r lent after t =
          let room : Room w₀ = record { packets = s; terminals = f.terminals } in
          let fits : Fits h.world = record { terminals = let z = f.terminals in rw p.same z; packets = let z = p.most in omega arith } in
          let line : line_of number (answer_of h.reply (take h.written bytes)) w₀.count ≡ line_of number (happen g e).answer (length g.packets) =
          ap (λ (a : Answer). line_of number a w₀.count) (p.answer room) ∙ ap (λ (k : ℕ). line_of number (happen g e).answer k) n in
          let told : Tells (record { text = line_of number (happen g e).answer (length g.packets); stage = running (happen g e).group (next_number number) }) r w' lent after =
          record {
            stage =
                ap (λ (p : Phase). stage_in (phase_of r.world p) (group_of w') r.number) t.phase
                ∙ ap (λ (x : World). stage_in (phase_of x Running) (group_of w') r.number) t.world
                ∙ ap (λ (p : Phase). stage_in p (group_of w') r.number) (phase_is h.world Running fits)
                ∙ ap (λ (g : Group). running g r.number) (p.group room)
                ∙ ap (λ (k : ℕ). running (happen g e).group k) t.next;
            written = t.written ∙ ap length line;
            output = t.output ∙ ap (λ (bytes : List ℕ). front bytes lent) line;
          } in
          let is : record { text = line_of number (happen g e).answer (length g.packets); stage = running (happen g e).group (next_number number) } ≡ event_told g number (Some e) =
          when_lt (length g.packets) packets_most _ _ _ (omega arith) refl in
          subst (λ (x : recover.Told). Tells x r w' lent after) is told
