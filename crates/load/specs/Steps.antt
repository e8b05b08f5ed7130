-- What the functions below the printing of a load promise on the way.
use Rattle.std.specs.Prelude.{◌≡◌, List, [], ◌++◌, ℕ, zero, suc, ◌≤◌, ◌<◌, length}
use Rattle.io.specs.Counts.{IsPrefixLen}
use Rattle.text.specs.LaidAt.{LaidAt}
use Rattle.workload.specs.Calls.{next_of}
use Rattle.workload.specs.Line.{line_room}
use Rattle.workload.specs.declared.Load.{Load}
use Rattle.load.specs.declared.Part.{Part}

-- the lines of a load's next events, one call of it after the other
unfoldable pub lines_from : Load → ℕ → List ℕ
lines_from load zero = []
lines_from load (suc k) = (next_of load).bytes ++ lines_from (next_of load).load k

-- of the lines of some events the first were laid, and those of the events that are left follow
pub record Lays (load : Load) (events : ℕ) (before after : List ℕ) (next : Load) (left size : ℕ) : Type 0 where
  pub lines : List ℕ
  pub laid : LaidAt 0 lines before after size
  pub rest : lines_from load events ≡ lines ++ lines_from next left

-- and where there is room for a line and an event, one at least
pub record Gathers (load : Load) (events : ℕ) (before after : List ℕ) (r : Part) : Type 0 where
  pub lays : Lays load events before after r.load r.left r.size
  pub counts : IsPrefixLen r.size after
  pub fewer : 1 ≤ events → line_room ≤ length before → r.left < events
