-- Demand 3: one claim about the whole list of events, a field for each of its sentences, measured against the accepted messages of the
-- order; and what an event that is refused leaves. `proofs/Theorem.antt` has the proofs.
use Rattle.std.specs.Prelude.{◌≡◌, List, [], ◌++◌, ℕ, zero, suc, ◌+◌, ◌-◌, ◌*◌, ◌≤◌, ◌<◌, length}
use Rattle.std.proofs.Math.ListN as list
use Rattle.group.specs.Limits.{members_most, waiting_most, largest_number}
use Rattle.group.specs.declared.Refusal.{Refusal}
use Rattle.member.specs.declared.Answer as memberAnswer
use Rattle.message.specs.Order.{Submission, own_of}
use Rattle.model.specs.Closing.{closing, closing_most}
use Rattle.model.specs.Log.{order, accepted_order, offered_order, taken, owed, accepted, history_of}
use Rattle.model.specs.World.{Event, Answer, absent, by_sequencer, by_member, Group, happen, World, run, fresh}
use Rattle.sequencer.specs.declared.Answer as sequencerAnswer

-- the sum of what `f` says of terminals 0 to n - 1
unfoldable pub sum : ℕ → (ℕ → ℕ) → ℕ
sum zero f = 0
sum (suc n) f = sum n f + f n

-- a list without its last k
abbrev pub without_last : ℕ → List Submission → List Submission
without_last k l = list.take (length l - k) l

pub record Claim (n : ℕ) (w : World) : Type 0 where
  -- for each terminal, what it took followed by what it is owed, the row that it acknowledges and the history's accepted messages above
  -- that row, equals the accepted messages of the order
  pub whole : (i : ℕ) → i < n → taken i w.log ++ owed w i ≡ accepted_order w
  -- so taken + owed, summed over all terminals, = n × accepted
  pub total : sum n (λ i. length (taken i w.log) + length (owed w i)) ≡ n * w.group.sequencer.accepted.0
  -- each terminal's own messages in the whole order are exactly its accepted submissions, once each, in its order, without the last
  -- few, five at most
  pub own : (i : ℕ) → i < n → (k : ℕ) × (k ≤ waiting_most) × (own_of i (order w.log) ≡ without_last k (accepted i w.log))
  -- from there a closing round of at most 106 × n events
  pub closing_short : length (closing w) ≤ closing_most * n
  -- (which changes no order)
  pub closing_order : order (run w (closing w)).log ≡ order w.log
  -- leaves just the messages that are not accepted in the history
  pub closing_leaves : history_of (run w (closing w)).group.sequencer ≡ offered_order w
  -- and gives every terminal the accepted messages
  pub closing_gives : (i : ℕ) → i < n → taken i (run w (closing w)).log ≡ accepted_order w

-- a group that can be opened: n is 1 to 16, r below n, and the group number at most the largest
pub record Opens (n number resilience : ℕ) : Type 0 where
  pub least : 1 ≤ n
  pub most : n ≤ members_most
  pub resilient : resilience < n
  pub fits : number ≤ largest_number

-- start from a fresh group of n terminals, 1 to 16, and let any list of its events happen
abbrev pub Demand3 : Type 0
Demand3 = (n number resilience : ℕ) → Opens n number resilience → (events : List Event) → Claim n (run (fresh n number resilience) events)

-- an answer that is a refusal, or says that a packet or member is not there
abbrev pub NotDone : Answer → Type 0
NotDone absent = Unit {0}
NotDone (by_sequencer answer bytes) = (refusal : Refusal) × (answer ≡ sequencerAnswer.Answer.Refused refusal)
NotDone (by_member answer bytes) = (refusal : Refusal) × (answer ≡ memberAnswer.Answer.Refused refusal)

-- an event that is refused, or names a packet or member not there, changes nothing and writes nothing
abbrev pub RefusedChangesNothing : Type 0
RefusedChangesNothing = (g : Group) (event : Event) → NotDone (happen g event).answer → (happen g event).group ≡ g
