-- What is printed part by part is what the whole input prints: a line that is cut tells what the whole line tells. Assumes nothing.
use mathlib.Core.Path.{◌≡◌, refl, sym, ap, ◌∙◌}
use mathlib.Core.List.{List, [], ◌++◌}
use Rattle.std.specs.Prelude.{None}
use Prim.Native.Nat.{ℕ, ◌+◌, ◌-◌, ◌≤◌, ◌<◌}
use native.Mathlib.Omega.{arith}
use lib.ListN.{length, take, drop}
use lib.Seq.{length-take-le, take_all}
use Rattle.group.proofs.Choice.{when_nle}
use Rattle.group.proofs.Lists.{le_or}
use Rattle.schedule.specs.Line.{event_of, opening_of, line_most}
use Rattle.player.specs.Play.{opening, running, ended, closed, Program, event_told, open_told, line_told, output_of}
use Rattle.player.specs.Feed.{State, start, said_of, fed_of, end_of}
use Rattle.player.specs.Laws.{Continues, ReadsOn, Quiet, PrintsAll}
use Rattle.player.specs.Parts.{kept_most, kept_of, ToldKept}
use Rattle.player.proofs.Parts as parts
pub use Rattle.player.proofs.Parts.{laid_front, continues_none, continues_fed}

-- a line over 1,000 characters is of another form, cut or not
event_kept : (line : List ℕ) → event_of (kept_of line) ≡ event_of line
unfolding event_of
event_kept line =
    le_or (length line) kept_most
    (λ h. ap event_of (take_all kept_most line h))
    (λ h.
    let n = length-take-le kept_most line (omega arith) in
    sym (when_nle (length (kept_of line)) line_most None _ _ (omega arith) refl) ∙ when_nle (length line) line_most None _ _ (omega arith) refl)

pub opening_kept : (line : List ℕ) → opening_of (kept_of line) ≡ opening_of line
unfolding opening_of
opening_kept line =
    le_or (length line) kept_most
    (λ h. ap opening_of (take_all kept_most line h))
    (λ h.
    let n = length-take-le kept_most line (omega arith) in
    sym (when_nle (length (kept_of line)) line_most None _ _ (omega arith) refl) ∙ when_nle (length line) line_most None _ _ (omega arith) refl)

told_kept : ToldKept line_told
unfolding line_told
told_kept opening line = ap open_told (opening_kept line)
told_kept (running g number) line = ap (event_told g number) (event_kept line)
told_kept (ended g) line = refl
told_kept closed line = refl

pub prints_all : PrintsAll
prints_all = parts.prints_all line_told told_kept opening

pub reads_on : ReadsOn
reads_on = parts.reads_on line_told

-- what is read of the rest of an input lies within it
pub reads_within : (s : State) (part rest : List ℕ) (from used : ℕ) → rest ≡ take (length part - from) (drop from part) → from < length part → used ≡ (fed_of s rest).used
    → (1 ≤ used) × (from + used ≤ length part)
reads_within = parts.reads_within line_told

-- nothing is left of an input that was read
pub continues_end : (program : Program) → Quiet program → (s : State) (input printed left : List ℕ) → left ≡ [] → Continues program start input printed s left
    → printed ++ (said_of program (end_of s) ++ program.last (end_of s).state.stage) ≡ output_of program input
continues_end = parts.continues_end line_told told_kept opening
