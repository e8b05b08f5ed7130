-- What a packet comes to, once it is read and asked: what is refused, or what becomes of it.
use Rattle.std.specs.Prelude.{Result}
use Rattle.group.specs.declared.Refusal.{Refusal}
use Rattle.sequencer.specs.declared.Decision.{Decision}

abbrev pub Decided : Type 0
Decided = Result Decision Refusal
