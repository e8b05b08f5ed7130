-- What the rest of the input prints goes behind what is shown.
use mathlib.Core.Path.{◌≡◌, refl, ap}
use mathlib.Core.List.{List, [], ◌++◌}
use Prim.Native.Nat.{ℕ, ◌+◌, ◌-◌, ◌≤◌, ◌<◌}
use native.Mathlib.Omega.{arith}
use lib.ListN.{length, drop, drop_of_length-le}
use Rattle.player.proofs.Laws.{reads_within, laid_front, continues_none, continues_fed, continues_end}
use Rattle.player.specs.Feed.{start}
use Rattle.player.specs.Play.{play_program}
use Rattle.playback.proofs.Showing.{shows_none, shows_length, as_shown}
use borrow.Author.Rules.{rules}
use Rattle.playback.proofs.play.Goals as goal

pub loop-from-init : goal.loop-from-init
loop-from-init c = (search rules, search rules, refl, ([], shows_none _, continues_none play_program start _ c.args.input.now (c.fresh-player.ensures _ _)))

pub put-at-requires : goal.put-at-requires
put-at-requires c = c.loop-from.invariant.1

pub overflow_add-from : goal.overflow_add-from
overflow_add-from c =
    let a = c.args in
    let input = a.input.now in
    let l = c.loop-from in
    let d = c.feed-fed.ensures in
    let w = reads_within _ input _ l.from _ refl c.loop-from-test.true d.used in
    let y : l.from + c.feed-fed.result.used ≤ length input = w.1 in
    let g = c.well_formed.0 in
    let z : l.from + c.feed-fed.result.used < 18446744073709551616 = omega arith in
    record { fits = z }

pub loop-from-smaller : goal.loop-from-smaller
loop-from-smaller c =
    let a = c.args in
    let input = a.input.now in
    let l = c.loop-from in
    let d = c.feed-fed.ensures in
    let w = reads_within _ input _ l.from _ refl c.loop-from-test.true d.used in
    let y : l.from + c.feed-fed.result.used ≤ length input = w.1 in
    let z : 1 ≤ c.feed-fed.result.used = w.0 in
    search rules

pub loop-from-preserved : goal.loop-from-preserved
loop-from-preserved c =
    let a = c.args in
    let input = a.input.now in
    let l = c.loop-from in
    let d = c.feed-fed.ensures in
    let w = reads_within _ input _ l.from _ refl c.loop-from-test.true d.used in
    let y : l.from + c.feed-fed.result.used ≤ length input = w.1 in
    let t = laid_front _ _ _ _ d.output d.written in
    let k = l.invariant.3 in
    let s = as_shown (ap (λ (x : List ℕ). k.0 ++ x) t) (c.put-at.ensures.adds k.0 _ k.1) in
    let f = continues_fed play_program start _ _ input k.0 _ l.from _ refl d.used d.state k.2 in
    (y, c.put-at.ensures.within, (shows_length _ _ _ _ s).0, (_, s, f))

pub shape_of-out : goal.shape_of-out
shape_of-out c =
    let input = c.args.input.now in
    let l = c.loop-from in
    let k = l.invariant.3 in
    let none : drop l.from input ≡ [] = drop_of_length-le input {i = l.from} c.loop-from-test.false in
    let s = as_shown (continues_end play_program (λ stage. refl) _ input k.0 _ none k.2) (c.finish.ensures k.0 _ k.1) in
    (shows_length _ _ _ _ s).0

pub returns : goal.returns
returns c =
    let input = c.args.input.now in
    let l = c.loop-from in
    let k = l.invariant.3 in
    let none : drop l.from input ≡ [] = drop_of_length-le input {i = l.from} c.loop-from-test.false in
    let s = as_shown (continues_end play_program (λ stage. refl) _ input k.0 _ none k.2) (c.finish.ensures k.0 _ k.1) in
    record { size = s.size; lent = s.text }
