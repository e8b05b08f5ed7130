-- The text is cut to its length, and then to the room that is left.
use mathlib.Core.Path.{◌≡◌, sym, ap, ◌∙◌}
use mathlib.Core.List.{List, ◌++◌}
use Prim.Native.Nat.{ℕ, ◌+◌, ◌-◌, ◌≤◌}
use native.Mathlib.Omega.{arith}
use lib.ListN.{length, take, drop, length-drop}
use lib.Seq.{length-take-le}
use Rattle.player.proofs.Keeping.{smaller_fits, whole_text}
use Rattle.player.specs.Player.{output_room}
use Rattle.playback.proofs.Showing.{smaller_min, put_shows, put_within, as_shown}
use borrow.Author.Rules.{rules}
use Rattle.playback.proofs.put.Goals as goal

pub slice_bounds-text-end : goal.slice_bounds-text-end
slice_bounds-text-end c =
    let a = c.args in
    let text = a.text in
    let room : length text ≡ output_room = search rules in
    let out = a.out.now in
    let most = c.min-most.result in
    let m = (smaller_fits a.size output_room most (c.min-most.ensures ∙ smaller_min a.size output_room)).1 in
    let n = c.min-n.result in
    let l = smaller_fits most (length out - a.at) n (c.min-n.ensures ∙ smaller_min most (length out - a.at)) in
    let l₀ = l.0 in
    let l₁ = l.1 in
    let p = c.requires in
    let fit : n ≤ length text = omega arith in
    omega arith

pub slice_bounds-copy-end : goal.slice_bounds-copy-end
slice_bounds-copy-end c =
    let a = c.args in
    let text = a.text in
    let room : length text ≡ output_room = search rules in
    let out = a.out.now in
    let most = c.min-most.result in
    let m = (smaller_fits a.size output_room most (c.min-most.ensures ∙ smaller_min a.size output_room)).1 in
    let n = c.min-n.result in
    let l = smaller_fits most (length out - a.at) n (c.min-n.ensures ∙ smaller_min most (length out - a.at)) in
    let l₀ = l.0 in
    let l₁ = l.1 in
    let p = c.requires in
    let fit : n ≤ length text = omega arith in
    sym (length-take-le n text fit)

pub copy-requires : goal.copy-requires
copy-requires c =
    let a = c.args in
    let text = a.text in
    let room : length text ≡ output_room = search rules in
    let out = a.out.now in
    let most = c.min-most.result in
    let m = (smaller_fits a.size output_room most (c.min-most.ensures ∙ smaller_min a.size output_room)).1 in
    let n = c.min-n.result in
    let l = smaller_fits most (length out - a.at) n (c.min-n.ensures ∙ smaller_min most (length out - a.at)) in
    let l₀ = l.0 in
    let l₁ = l.1 in
    let p = c.requires in
    let fit : n ≤ length text = omega arith in
    let t = length-take-le n text fit in
    let d = length-drop a.at out in
    let k = length-take-le (length out - a.at) (drop a.at out) (omega arith) in
    omega arith

pub overflow_add-result : goal.overflow_add-result
overflow_add-result c =
    let a = c.args in
    let text = a.text in
    let room : length text ≡ output_room = search rules in
    let out = a.out.now in
    let most = c.min-most.result in
    let m = (smaller_fits a.size output_room most (c.min-most.ensures ∙ smaller_min a.size output_room)).1 in
    let n = c.min-n.result in
    let l = smaller_fits most (length out - a.at) n (c.min-n.ensures ∙ smaller_min most (length out - a.at)) in
    let l₀ = l.0 in
    let l₁ = l.1 in
    let p = c.requires in
    let fit : n ≤ length text = omega arith in
    let y : a.at + n ≤ length out = omega arith in
    search rules

pub returns : goal.returns
returns c =
    let a = c.args in
    let text = a.text in
    let room : length text ≡ output_room = search rules in
    let out = a.out.now in
    let most = c.min-most.result in
    let m = (smaller_fits a.size output_room most (c.min-most.ensures ∙ smaller_min a.size output_room)).1 in
    let n = c.min-n.result in
    let l = smaller_fits most (length out - a.at) n (c.min-n.ensures ∙ smaller_min most (length out - a.at)) in
    let l₀ = l.0 in
    let l₁ = l.1 in
    let p = c.requires in
    let fit : n ≤ length text = omega arith in record {
      adds = λ printed lent s.
          as_shown (ap (λ (x : ℕ). printed ++ take x text) (c.min-most.ensures ∙ smaller_min a.size output_room) ∙ ap (λ (t : List ℕ). printed ++ t) (whole_text text a.size output_room room))
          (put_shows printed lent out text _ most a.at _ s (omega arith) (c.min-n.ensures ∙ smaller_min most (length out - a.at)) c.copy.ensures);
      within = put_within out text _ a.at _ fit p c.copy.ensures;
    }
