-- The line fits the output: there are at most 16 members.
use mathlib.Core.Path.{◌≡◌, sym, ap, ◌∙◌}
use mathlib.Core.List.{List}
use mathlib.Core.List.{map}
use Prim.Native.Nat.{ℕ, ◌≤◌}
use native.Mathlib.Omega.{arith}
use lib.ListN.{length, take}
use lib.Seq.{length-take-le}
use Rattle.group.specs.Lent.{front}
use Rattle.group.specs.Limits.{members_most}
use Rattle.member.specs.State.{Member}
use Rattle.report.specs.Print.{last_room, last_line}
use Rattle.simulator.proofs.Lists.{lists_take}
use Rattle.player.specs.Play.{last_told}
use Rattle.player.specs.Player.{output_room, taken_at}
use Rattle.player.proofs.Telling.{fits_in}
use borrow.Author.Rules.{rules}
use Rattle.player.proofs.write_taken.Goals as goal

pub slice_bounds-write_last-end : goal.slice_bounds-write_last-end
slice_bounds-write_last-end c = let h : c.args.head.sequencer.group.n ≤ length c.each_taken-taken.result = search rules in sym (length-take-le _ c.each_taken-taken.result h)

pub returns : goal.returns
returns c =
    let a = c.args in
    let lent = a.out.now in
    let n = a.head.sequencer.group.n in
    let room : length lent ≡ output_room = search rules in
    let taken = c.each_taken-taken.result in
    let f = c.requires.members in
    let h : n ≤ length taken = search rules in
    let k = length-take-le n taken h in
    λ g s.
    let t : take n taken ≡ map (λ (m : Member). m.taken.0) g.members = ap (take n) c.each_taken-taken.ensures ∙ lists_take (taken_at a.numbers.now) n members_most f ∙ sym s.members in
    let line : last_line a.head.sequencer.top.0 a.head.sequencer.floor.0 (take n taken) ≡ last_told g = λ i. last_line (sym s.top i).0 (sym s.floor i).0 (t i) in
    let e = fits_in (last_room (take n taken)) (length lent) (last_line a.head.sequencer.top.0 a.head.sequencer.floor.0 (take n taken)) (omega arith) ∙ line in
    record { size = c.write_last.ensures.size ∙ ap length e; lent = c.write_last.ensures.lent ∙ ap (λ (bytes : List ℕ). front bytes lent) e }
