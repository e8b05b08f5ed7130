-- Demand 3 of the survivors, wherever it is claimed; and what a making keeps.
use Rattle.std.specs.Prelude.{◌≡◌, true, List, ◌++◌, ℕ, ◌+◌, ◌*◌, ◌≤◌, length}
use Rattle.std.specs.Int.Count.{ones}
use Rattle.std.proofs.Math.ListN as list
use Rattle.group.specs.Choice.{when◌then◌else◌}
use Rattle.group.specs.Limits.{waiting_most}
use Rattle.group.specs.Members.{is_in}
use Rattle.message.specs.Order.{Ordered, own_of}
use Rattle.model.specs.Claim.{sum, without_last, Opens}
use Rattle.model.specs.Closing.{closing_most}
use Rattle.model.specs.Log.{row_of, owed_after, history_of, accepted_history}
use Rattle.reset.specs.Closing.{sequencer_of, closing}
use Rattle.reset.specs.Course.{Course, course_in, taken, accepted, Allowed, Orderly, is_sent}
use Rattle.reset.specs.World.{Event, submit, repeat, take, status, poll, copy, hand_member, hand_sequencer, invite, make, World, happen, step, run, fresh, terminal_at}

-- the accepted messages of the order, and the others
abbrev pub accepted_order : World → Course → List Ordered
accepted_order w c = list.take (sequencer_of w c).accepted.0 c.order

abbrev pub offered_order : World → Course → List Ordered
offered_order w c = list.drop (sequencer_of w c).accepted.0 c.order

-- owed to a survivor are the row that its member acknowledges, and the elected one's history's accepted messages above that row
abbrev pub owed : World → Course → ℕ → List Ordered
owed w c i = owed_after (taken i w.log) (row_of (terminal_at w.group i).member) (accepted_history (sequencer_of w c))

-- no attempt is open, and every survivor has the result
pub record Claimed (w : World) (c : Course) : Type 0 where
  pub settled : c.attempt ≡ c.number
  pub all : (i : ℕ) → is_in c.survivors i ≡ true → (terminal_at w.group i).member.group.number ≡ c.number

pub record Claim (n number : ℕ) (w : World) : Type 0 where
  -- for each survivor, what it took followed by what it is owed equals the accepted messages of the order
  pub whole : let c : Course = course_in n number w in
      (i : ℕ) → is_in c.survivors i ≡ true → taken i w.log ++ owed w c i ≡ accepted_order w c
  -- so taken + owed, summed over all survivors, = survivors × accepted
  pub total : let c : Course = course_in n number w in
      sum n (λ i. when is_in c.survivors i then length (taken i w.log) + length (owed w c i) else 0)
      ≡ ones c.survivors * (sequencer_of w c).accepted.0
  -- each survivor's own messages in the whole order are exactly its accepted submissions, once each, in its order, without the last few,
  -- five at most
  pub own : let c : Course = course_in n number w in
      (i : ℕ) → is_in c.survivors i ≡ true → (k : ℕ) × (k ≤ waiting_most) × (own_of i c.order ≡ without_last k (accepted i w.log))
  -- from there a closing round of at most 106 × survivors events
  pub closing_short : let c : Course = course_in n number w in length (closing w c) ≤ closing_most * ones c.survivors
  -- (which changes no order)
  pub closing_order : let c : Course = course_in n number w in (course_in n number (run w (closing w c))).order ≡ c.order
  -- leaves just the messages that are not accepted in the elected one's history
  pub closing_leaves : let c : Course = course_in n number w in history_of (sequencer_of (run w (closing w c)) c) ≡ offered_order w c
  -- and gives every survivor the accepted messages
  pub closing_gives : let c : Course = course_in n number w in
      (i : ℕ) → is_in c.survivors i ≡ true → taken i (run w (closing w c)).log ≡ accepted_order w c

-- start from a fresh group of n terminals, 1 to 16, and let any list of its events happen that keeps the limit: demand 3 is claimed of
-- the survivors, except from an invitation until all survivors of a new group have the result
abbrev pub Demand3Reset : Type 0
Demand3Reset =
    (n number resilience : ℕ) → Opens n number resilience → (events : List Event) → Orderly n number (fresh n number resilience) events
    → let w : World = run (fresh n number resilience) events in Claimed w (course_in n number w) → Claim n number w

-- what a terminal took begins an order
pub record Begins (x y : List Ordered) : Type 0 where
  pub fits : length x ≤ length y
  pub is : list.take (length x) y ≡ x

-- at every time, claimed or not, what a survivor took begins the order
abbrev pub TakenBegins : Type 0
TakenBegins =
    (n number resilience : ℕ) → Opens n number resilience → (events : List Event) → Orderly n number (fresh n number resilience) events
    → let w : World = run (fresh n number resilience) events in
    (i : ℕ) → is_in (course_in n number w).survivors i ≡ true → Begins (taken i w.log) (course_in n number w).order

-- an event that makes no group
abbrev pub MakesNone : World → Event → Type 0
MakesNone w (submit i payload) = Unit {0}
MakesNone w (repeat i) = Unit {0}
MakesNone w (take i) = Unit {0}
MakesNone w (status i) = Unit {0}
MakesNone w (poll i) = Unit {0}
MakesNone w (copy i number) = Unit {0}
MakesNone w (hand_member k i) = Unit {0}
MakesNone w (hand_sequencer k i) = Unit {0}
MakesNone w (invite i number) = Unit {0}
MakesNone w (make i demand) = is_sent (happen w.group (make i demand)).answer ≡ true → ⊥

-- the worlds in which survival is claimed at the next making: no group was made yet, or none since a closing round that was run while
-- demand 3 was claimed
pub data Firm (n number resilience : ℕ) : World → Type 0 where
  first : Firm n number resilience (fresh n number resilience)
  closed : (events : List Event) → Orderly n number (fresh n number resilience) events
      → Claimed (run (fresh n number resilience) events) (course_in n number (run (fresh n number resilience) events))
      → Firm n number resilience
      (run (run (fresh n number resilience) events)
      (closing (run (fresh n number resilience) events) (course_in n number (run (fresh n number resilience) events))))
  on : {w : World} → Firm n number resilience w → (event : Event) → Allowed w (course_in n number w) event → MakesNone w event
      → Firm n number resilience (step w event)

-- what a making keeps, where the group made last was `c` and is `c'` with it: if at most r members are lost, every accepted message of the
-- order up to then is in the new one with its old number, and each survivor's taken messages begin it
pub record Survived (resilience : ℕ) (w : World) (c c' : Course) : Type 0 where
  pub within : (i : ℕ) → is_in c'.survivors i ≡ true → is_in c.survivors i ≡ true
  pub accepted_kept : ones c.survivors ≤ ones c'.survivors + resilience
      → list.take (sequencer_of w c).accepted.0 c'.order ≡ accepted_order w c
  pub taken_begin : (i : ℕ) → is_in c'.survivors i ≡ true → Begins (taken i w.log) c'.order

-- the worlds in which no group was made yet
pub data Unmade (n number resilience : ℕ) : World → Type 0 where
  begun : Unmade n number resilience (fresh n number resilience)
  next : {w : World} → Unmade n number resilience w → (event : Event) → Allowed w (course_in n number w) event → MakesNone w event
      → Unmade n number resilience (step w event)

-- survival at the first reset that makes a group
abbrev pub SurvivesFirst : Type 0
SurvivesFirst =
    (n number resilience : ℕ) → Opens n number resilience → (w : World) → Unmade n number resilience w → (i demand : ℕ)
    → let c : Course = course_in n number w in
    is_sent (happen w.group (make i demand)).answer ≡ true → Survived resilience w c (course_in n number (step w (make i demand)))

-- and at one with a closing round since the one before
abbrev pub Survives : Type 0
Survives =
    (n number resilience : ℕ) → Opens n number resilience → (w : World) → Firm n number resilience w → (i demand : ℕ)
    → let c : Course = course_in n number w in
    Allowed w c (make i demand) → is_sent (happen w.group (make i demand)).answer ≡ true
    → Survived resilience w c (course_in n number (step w (make i demand)))
