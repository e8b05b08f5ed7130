-- The three parts of a row, laid one behind the other.
use mathlib.Core.Path.{◌≡◌, ap, ◌∙◌}
use mathlib.Core.List.{◌++◌}
use Prim.Native.Nat.{ℕ, ◌+◌, ◌-◌}
use native.Mathlib.Omega.{arith}
use lib.ListN.{take, drop}
use Rattle.big_endian.specs.Number.{number_at, bytes_of}
use Rattle.text.proofs.Pieces.{laid_then}
use Rattle.plan.specs.Table.{length_before, row_at}
use Rattle.plan.proofs.put_row.Goals as goal

pub returns : goal.returns
unfolding row_at
returns c =
    let a = c.args in
    let j = a.journal.now in
    let unit = bytes_of 2 (number_at 2 j (a.start + 1)) in
    let size = bytes_of 2 (length_before j a.start - 3) in
    let text = take (length_before j a.start - 3) (drop (a.start + 3) j) in
    let n = c.length_before-length.result in
    let same : n ≡ length_before j a.start = c.length_before-length.ensures.0 in
    let e : a.start + n - (a.start + 3) ≡ length_before j a.start - 3 = omega arith in
    let u : _ ≡ unit = c.u16_bytes-unit.ensures ∙ ap (bytes_of 2) c.u16_at.ensures in
    let z : _ ≡ size = c.u16_bytes-size.ensures ∙ ap (λ (x : ℕ). bytes_of 2 (x - 3)) same in
    laid_then unit (size ++ text) (rw u at c.put_text-behind_unit.ensures) (laid_then size text (rw z at c.put_text-behind_size.ensures) (rw e at c.put_text.ensures))
