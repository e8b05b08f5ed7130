-- What a source gives, and what a sink takes.
use Rattle.std.specs.Prelude.{◌≡◌, ℕ, true, false, List, [], ◌++◌}
use Rattle.std.specs.Borrow.{MutBor}
use Rattle.std.specs.Io.KnownBytes.{Consumes, Appends}
use Rattle.std.specs.declared.option.Option.{Option}
use Rattle.descriptor.specs.Tally.{nothing, tallied}
use Rattle.descriptor.specs.declared.Source.{Source}
use Rattle.descriptor.specs.declared.Sink.{Sink}

abbrev pub source_of : {R : Type 0} → MutBor R → Source R
source_of reader = record { reader = reader; tally = nothing }

abbrev pub sink_to : {W : Type 0} → MutBor W → Sink W
sink_to writer = record { writer = writer; tally = nothing; failed = false }

-- a source that gave the bytes has the reader that it had, at their tally; and where the bytes that the reader has left are known, it gave the first of them
pub record Gives {R : Type 0} (remaining : R → Option (List ℕ)) (before : Source R) (bytes : List ℕ) (after : Source R) : Type 0 where
  pub same : after.reader.ghost_name ≡ before.reader.ghost_name
  pub given : after.tally ≡ tallied before.tally bytes
  pub read : Consumes (remaining before.reader.now) (remaining after.reader.now) bytes

-- a sink was handed the first of the bytes in their order, and all of them unless it failed; one that failed before stays as it was. Where the bytes that
-- the writer holds are known, those behind them are the bytes handed, unless it failed
pub record Takes {W : Type 0} (contents : W → Option (List ℕ)) (before : Sink W) (bytes : List ℕ) (after : Sink W) : Type 0 where
  pub same : after.writer.ghost_name ≡ before.writer.ghost_name
  pub handed : List ℕ
  pub left : List ℕ
  pub split : bytes ≡ handed ++ left
  pub taken : after.tally ≡ tallied before.tally handed
  pub whole : after.failed ≡ false → (before.failed ≡ false) × (left ≡ [])
  pub stopped : before.failed ≡ true → after ≡ before
  pub written : after.failed ≡ false → Appends (contents before.writer.now) (contents after.writer.now) bytes
