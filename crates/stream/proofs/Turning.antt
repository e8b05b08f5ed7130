-- Two inputs that were played one after the other are played as one. Assumes nothing.
use Rattle.std.proofs.Common.{◌≡◌, refl, subst, List, [], ◌++◌, append_assoc, ℕ}
use Rattle.std.specs.declared.option.Option.{Option}
use Rattle.descriptor.proofs.Laws.{gives_none, gives_both, takes_none, takes_both}
use Rattle.descriptor.specs.declared.Source.{Source}
use Rattle.descriptor.specs.declared.Sink.{Sink}
use Rattle.player.proofs.Parts.{continues_none}
use Rattle.player.specs.Lines.{Told, Program}
use Rattle.player.specs.Parts.{State}
use Rattle.stream.specs.Puts.{PutsBy, TurnsBy}

module _ {Stage : Type 0} {line_told : Stage → List ℕ → Told Stage} {program : Program Stage} {W : Type 0} {contents : W → Option (List ℕ)} where
  pub puts_from : {s t u : State Stage} {a b : List ℕ} {i j : Sink W} → s ≡ t → PutsBy line_told program contents s a u b i j → PutsBy line_told program contents t a u b i j
  puts_from {s} {t} {u} {a} {b} {i} {j} e p = subst (λ (x : State Stage). PutsBy line_told program contents x a u b i j) e p

  pub puts_none : (s : State Stage) (input : List ℕ) (k : Sink W) → PutsBy line_told program contents s input s input k k
  puts_none s input k = record { printed = []; takes = takes_none k; continues = continues_none program s s input refl }

  puts_both : {s t u : State Stage} {a b : List ℕ} {i j k : Sink W} → PutsBy line_told program contents s a t [] i j → PutsBy line_told program contents t b u [] j k → PutsBy line_told program contents s (a ++ b) u [] i k
  puts_both {s} {t} {u} {a} {b} p q =
      record {
        printed = p.printed ++ q.printed;
        takes = takes_both p.takes q.takes;
        continues = λ rest output z.
            rw (append_assoc a b rest, append_assoc p.printed q.printed output)
            (p.continues (b ++ rest) (q.printed ++ output) (q.continues rest output z));
      }

  module _ {R : Type 0} {remaining : R → Option (List ℕ)} where
    pub turns_none : (s : State Stage) (source : Source R) (sink : Sink W) → TurnsBy line_told program contents remaining s s source sink source sink
    turns_none s source sink = record { input = []; gives = gives_none source; puts = puts_none s [] sink }

    pub turns_both : {s t u : State Stage} {source read last : Source R} {sink handed ended : Sink W} → TurnsBy line_told program contents remaining s t source sink read handed → TurnsBy line_told program contents remaining t u read handed last ended → TurnsBy line_told program contents remaining s u source sink last ended
    turns_both p q = record { input = p.input ++ q.input; gives = gives_both p.gives q.gives; puts = puts_both p.puts q.puts }
