-- What has room behind the bytes that stand is kept.
use mathlib.Core.Path.{◌≡◌, sym, ap, ◌∙◌}
use mathlib.Core.List.{List, ◌++◌, append_assoc}
use Prim.Native.Nat.{ℕ, ◌+◌, ◌-◌, ◌≤◌, ◌<◌}
use native.Mathlib.Omega.{arith}
use lib.ListN.{length, take, drop, length-drop}
use lib.Seq.{length-take-le}
use Rattle.player.specs.Feed.{kept_most, kept_of}
use Rattle.player.proofs.Keeping.{min_fits, kept_with, whole_min}
use borrow.Author.Rules.{rules}
use Rattle.player.proofs.keep.Goals as goal

pub overflow_sub-from : goal.overflow_sub-from
overflow_sub-from c =
    let a = c.args in
    let line = a.line.now in
    let part = a.part.now in
    let f = c.min-from.result in
    let n : length line ≡ kept_most = c.requires in
    let k = (min_fits a.kept kept_most f c.min-from.ensures).1 in
    search rules

pub slice_bounds-copy-end : goal.slice_bounds-copy-end
slice_bounds-copy-end c =
    let a = c.args in
    let line = a.line.now in
    let part = a.part.now in
    let f = c.min-from.result in
    let n : length line ≡ kept_most = c.requires in
    let k = (min_fits a.kept kept_most f c.min-from.ensures).1 in
    let size = c.min-size.result in
    let h = min_fits (length part) (kept_most - f) size c.min-size.ensures in
    let h₀ = h.0 in
    let h₁ = h.1 in
    sym (length-take-le size part h₀)

pub slice_bounds-copy-count : goal.slice_bounds-copy-count
slice_bounds-copy-count c =
    let a = c.args in
    let line = a.line.now in
    let part = a.part.now in
    let f = c.min-from.result in
    let n : length line ≡ kept_most = c.requires in
    let k = (min_fits a.kept kept_most f c.min-from.ensures).1 in
    let size = c.min-size.result in
    let h = min_fits (length part) (kept_most - f) size c.min-size.ensures in
    let h₀ = h.0 in
    let h₁ = h.1 in
    let b : f ≤ length line = omega arith in
    search rules

pub slice_bounds-copy-start : goal.slice_bounds-copy-start
slice_bounds-copy-start c =
    let a = c.args in
    let line = a.line.now in
    let part = a.part.now in
    let f = c.min-from.result in
    let n : length line ≡ kept_most = c.requires in
    let k = (min_fits a.kept kept_most f c.min-from.ensures).1 in
    let size = c.min-size.result in
    let h = min_fits (length part) (kept_most - f) size c.min-size.ensures in
    let h₀ = h.0 in
    let h₁ = h.1 in
    let b : f ≤ length line = omega arith in
    search rules

pub slice_bounds-copy-end-2 : goal.slice_bounds-copy-end-2
slice_bounds-copy-end-2 c =
    let a = c.args in
    let line = a.line.now in
    let part = a.part.now in
    let f = c.min-from.result in
    let n : length line ≡ kept_most = c.requires in
    let k = (min_fits a.kept kept_most f c.min-from.ensures).1 in
    let size = c.min-size.result in
    let h = min_fits (length part) (kept_most - f) size c.min-size.ensures in
    let h₀ = h.0 in
    let h₁ = h.1 in
    let b : f ≤ length line = omega arith in
    search rules

pub copy-requires : goal.copy-requires
copy-requires c =
    let a = c.args in
    let line = a.line.now in
    let part = a.part.now in
    let f = c.min-from.result in
    let n : length line ≡ kept_most = c.requires in
    let k = (min_fits a.kept kept_most f c.min-from.ensures).1 in
    let size = c.min-size.result in
    let h = min_fits (length part) (kept_most - f) size c.min-size.ensures in
    let h₀ = h.0 in
    let h₁ = h.1 in
    let l = length-take-le size part h₀ in
    let d = length-drop f line in
    let t = length-take-le (length line - f) (drop f line) (omega arith) in
    omega arith

pub overflow_add-result : goal.overflow_add-result
overflow_add-result c =
    let a = c.args in
    let line = a.line.now in
    let part = a.part.now in
    let f = c.min-from.result in
    let n : length line ≡ kept_most = c.requires in
    let k = (min_fits a.kept kept_most f c.min-from.ensures).1 in
    let size = c.min-size.result in
    let h = min_fits (length part) (kept_most - f) size c.min-size.ensures in
    let h₀ = h.0 in
    let h₁ = h.1 in
    let z : f + size < 18446744073709551616 = omega arith in
    record { fits = z }

pub returns : goal.returns
returns c =
    let a = c.args in
    let line = a.line.now in
    let part = a.part.now in
    let f = c.min-from.result in
    let n : length line ≡ kept_most = c.requires in
    let k = (min_fits a.kept kept_most f c.min-from.ensures).1 in
    let size = c.min-size.result in
    let h = min_fits (length part) (kept_most - f) size c.min-size.ensures in
    let h₀ = h.0 in
    let h₁ = h.1 in
    let z : f + size ≤ kept_most = omega arith in record {
      kept = rw c.copy.ensures (rw append_assoc (kept_with line part _ f size (omega arith) k c.min-size.ensures))
          ∙ ap (λ (x : List ℕ). kept_of (x ++ part)) (ap (λ (x : ℕ). take x line) c.min-from.ensures ∙ whole_min line a.kept kept_most n);
      most = z;
    }
