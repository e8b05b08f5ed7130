-- The line is the one that is kept.
use mathlib.Core.Path.{refl, sym}
use mathlib.Core.List.{[]}
use lib.Seq.{length-take-le}
use Rattle.reset_player.proofs.play_line.Goals as goal

pub slice_bounds-play-end : goal.slice_bounds-play-end
slice_bounds-play-end c = sym (length-take-le _ _ c.requires)

pub returns : goal.returns
returns c =
    let p = c.play-told.ensures in
    λ line. record { state = λ i. record { stage = p.stage i; line = [] }; used = refl; written = p.written; output = p.output }
