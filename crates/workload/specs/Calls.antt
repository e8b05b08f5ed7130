-- What opening a load and its next line come to.
use Rattle.std.specs.Prelude.{List, [], ℕ, length, Result, Ok, Err, ⊤}
use Rattle.group.specs.Choice.{ask◌or◌then◌, ◌and◌, ◌≤?◌}
use Rattle.group.specs.Limits.{members_most}
use Rattle.group.specs.Opening as group
use Rattle.group.specs.Opening.{Opened}
use Rattle.group.specs.declared.Refusal.{Refusal}
use Rattle.group.specs.declared.Refusal.TheVariants.{UnsoundState}
use Rattle.text.specs.Written.{line}
use Rattle.workload.specs.Choice.{event_from}
use Rattle.workload.specs.Line.{opening_fields, event_fields}
use Rattle.workload.specs.declared.Load.{Load}
use Rattle.workload.specs.declared.Step.{Step}

-- the load that a call leaves, its answer, and the bytes that it lays at the front of the lent output
pub record Outcome : Type 0 where
  pub load : Load
  pub answer : Result ⊤ Refusal
  pub bytes : List ℕ

-- what the call gives back of it
abbrev pub step_of : Outcome → Step
step_of o = record { load = o.load; answer = o.answer; written = length o.bytes }

-- a load of n members that stands at a state
abbrev pub load_at : ℕ → ℕ → Load
load_at state n = record { generator = record { state = state }; n = n }

-- a no: nothing is written
abbrev pub refused : Load → Refusal → Outcome
refused load refusal = record { load = load; answer = Err refusal; bytes = [] }

-- the first line, or question 18 of the group; then the load is all zero, and has no line
unfoldable pub opened : ℕ → Opened → Outcome
opened seed (Ok g) = record { load = load_at seed g.n; answer = Ok tt; bytes = line (opening_fields g.n g.number) }
opened seed (Err refusal) = refused (load_at 0 0) refusal

-- the group's resilience degree is 0
abbrev pub open_of : ℕ → ℕ → ℕ → Outcome
open_of seed n number = opened seed (group.open_of n number 0)

-- question 1: is n 1 to 16? Then the line of the next event
unfoldable pub next_of : Load → Outcome
next_of load =
    ask 1 ≤? load.n and load.n ≤? members_most or refused load UnsoundState then
    record {
      load = load_at (event_from load.n load.generator.state).state load.n;
      answer = Ok tt;
      bytes = line (event_fields (event_from load.n load.generator.state).event);
    }
