-- The line fits the output.
use mathlib.Core.Path.{◌≡◌, ap, ◌∙◌}
use mathlib.Core.List.{List}
use Prim.Native.Nat.{ℕ}
use native.Mathlib.Omega.{arith}
use lib.ListN.{length}
use Rattle.group.specs.Lent.{front}
use Rattle.player.proofs.Telling.{fits_in}
use Rattle.player.specs.Player.{output_room}
use Rattle.report.specs.Print.{bad_opening, line_room}
use borrow.Author.Rules.{rules}
use Rattle.reset_stream.proofs.write_unopened.Goals as goal

pub returns : goal.returns
returns c =
    let lent = c.args.out.now in
    let room : length lent ≡ output_room = search rules in
    let fit = fits_in line_room (length lent) bad_opening (omega arith) in
    record { size = c.write_bad_opening.ensures.size ∙ ap length fit; lent = c.write_bad_opening.ensures.lent ∙ ap (λ (bytes : List ℕ). front bytes lent) fit }
