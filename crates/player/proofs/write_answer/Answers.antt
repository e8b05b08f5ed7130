-- The line fits the output.
use mathlib.Core.Path.{◌≡◌, sym, ap, ◌∙◌}
use mathlib.Core.List.{List}
use Prim.Native.Nat.{ℕ}
use native.Mathlib.Omega.{arith}
use lib.ListN.{length, take}
use lib.Seq.{length-take-le}
use Rattle.group.specs.Lent.{front}
use Rattle.group.specs.Limits.{longest_packet}
use Rattle.model.specs.World.{answer_of}
use Rattle.report.specs.Print.{line_of, event_room}
use Rattle.player.specs.Player.{output_room}
use Rattle.player.proofs.Telling.{fits_in}
use borrow.Author.Rules.{rules}
use Rattle.player.proofs.write_answer.Goals as goal

pub slice_bounds-write_event-end : goal.slice_bounds-write_event-end
slice_bounds-write_event-end c =
    let n : length c.args.bytes ≡ longest_packet = search rules in sym (length-take-le c.args.size c.args.bytes (rw n c.requires))

pub returns : goal.returns
returns c =
    let a = c.args in
    let m : length a.bytes ≡ longest_packet = search rules in
    let b = length-take-le a.size a.bytes (rw m c.requires) in
    let p = c.requires in
    let n : length a.out.now ≡ output_room = search rules in
    let bytes = take a.size a.bytes in
    let e = fits_in (event_room bytes) (length a.out.now) (line_of a.number (answer_of a.reply bytes) a.index) (omega arith) in
    record { size = c.write_event.ensures.size ∙ ap length e; lent = c.write_event.ensures.lent ∙ ap (λ (bytes : List ℕ). front bytes a.out.now) e }
