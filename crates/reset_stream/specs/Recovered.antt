-- What playing a schedule with resets from a source to a sink comes to.
use Rattle.std.specs.Prelude.{List, ℕ}
use Rattle.std.specs.declared.option.Option.{Option}
use Rattle.descriptor.specs.Descriptor.{Gives, Takes}
use Rattle.descriptor.specs.declared.Source.{Source}
use Rattle.descriptor.specs.declared.Sink.{Sink}
use Rattle.reset_output.specs.Recover.{recover_of}
use Rattle.stream.specs.declared.Played.{Played}

-- the source gave an input, and the sink took what `recover` prints of the whole input
pub record Recovers {R W : Type 0} (remaining : R → Option (List ℕ)) (contents : W → Option (List ℕ)) (source : Source R) (sink : Sink W) (r : Played R W) : Type 0 where
  pub input : List ℕ
  pub gives : Gives remaining source input r.source
  pub takes : Takes contents sink (recover_of input) r.sink
