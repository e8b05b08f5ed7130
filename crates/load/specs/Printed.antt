-- What printing a load comes to.
use Rattle.std.specs.Prelude.{Ok, Err}
use Rattle.std.specs.Prelude.{◌≡◌, List, [], ℕ}
use Rattle.std.specs.declared.option.Option.{Option}
use Rattle.descriptor.specs.Descriptor.{Takes}
use Rattle.descriptor.specs.declared.Sink.{Sink}
use Rattle.group.specs.Opening as group
use Rattle.group.specs.Opening.{Opened}
use Rattle.workload.specs.Calls.{open_of}
use Rattle.workload.specs.Line.{load_of}
use Rattle.load.specs.declared.Printed.{Printed}

-- a load that is opened is printed whole, of one that is refused nothing
unfoldable pub printed_of : ℕ → ℕ → Opened → List ℕ
printed_of seed events (Ok g) = load_of seed g.n g.number events
printed_of seed events (Err refusal) = []

-- the sink took that, and the answer is the opening's
pub record Prints {W : Type 0} (contents : W → Option (List ℕ)) (seed n number events : ℕ) (sink : Sink W) (r : Printed W) : Type 0 where
  pub answer : r.answer ≡ (open_of seed n number).answer
  pub takes : Takes contents sink (printed_of seed events (group.open_of n number 0)) r.sink
