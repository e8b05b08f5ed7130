-- The sum of a block: its bound, and the laws by which a loop over both halves of the bytes goes one byte on in each. Assumes nothing.
use mathlib.Core.Path.{◌≡◌, ap, ◌∙◌}
use mathlib.Core.List.{List, [], ◌∷◌}
use Prim.Native.Nat.{ℕ, suc, ◌+◌, ◌*◌, ◌≤◌, ◌<◌}
use native.Mathlib.Nat.{add-mul, mul-le-mul}
use native.Mathlib.Numerals.{add-one}
use native.Mathlib.Omega.{arith}
use lib.ListN.{length, get_or, take, drop, drop_of_length-le}
use lib.Seq.{length-take-le, drop-cons, get_or-take}
use Rattle.big_endian.specs.Laws.{Bytes}
use Rattle.journal.specs.Limits.{block_size, records_end}
use Rattle.journal.specs.Block.{sum_from}

-- the sum of bytes up to position 507 is at most 508 × 255 for each
pub sum_most : (position : ℕ) (l : List ℕ) → Bytes l → position + length l ≤ records_end → sum_from position l ≤ 129540 * length l
unfolding sum_from Bytes
sum_most position [] bytes h = omega arith
sum_most position (b ∷ l) bytes h =
    let s = sum_most (position + 1) l (λ i k. bytes (suc i) (omega arith)) (omega arith) in
    let y : b < 256 = bytes 0 (omega arith) in
    let p : position + 1 ≤ 508 = omega arith in
    let q : b ≤ 255 = omega arith in
    let m : (position + 1) * b ≤ 508 * 255 = mul-le-mul p q in
    omega arith

-- a product with a weight of the first half
pub part_most : (weight b : ℕ) → weight ≤ 254 → b < 256 → weight * b ≤ 64770
part_most weight b h k = let q : b ≤ 255 = omega arith in mul-le-mul h q

-- the sum from a byte on, and from behind the last
module _ (block : List ℕ) (i : ℕ) (long : length block ≡ block_size) where
  pub sum_on : i < records_end → sum_from i (drop i (take records_end block)) ≡ (i + 1) * get_or block i 0 + sum_from (i + 1) (drop (i + 1) (take records_end block))
  unfolding sum_from
  sum_on h =
      let l = take records_end block in
      let n : length l ≡ records_end = length-take-le records_end block (omega arith) in
      rw (drop-cons l i 0 (omega arith), add-one, get_or-take records_end block i 0 h)

  pub sum_done : records_end ≤ i → sum_from i (drop i (take records_end block)) ≡ 0
  unfolding sum_from
  sum_done h =
      let l = take records_end block in
      let n : length l ≡ records_end = length-take-le records_end block (omega arith) in
      rw (drop_of_length-le l {i = i} (omega arith))

-- the sum from a position on
abbrev rest : List ℕ → ℕ → ℕ
rest block i = sum_from i (drop i (take records_end block))

-- a turn of the loop over both halves of these bytes, and its end
module _ (block : List ℕ) (i total : ℕ) (long : length block ≡ block_size)
    (inv : total + (rest block i + rest block (i + 254)) ≡ sum_from 0 (take records_end block) + rest block 254) where
  pub turn : i < 254
      → total + ((i + 1) * get_or block i 0 + ((i + 1) * get_or block (i + 254) 0 + 254 * get_or block (i + 254) 0)) + (rest block (i + 1) + rest block (i + 1 + 254)) ≡ sum_from 0 (take records_end block) + rest block 254
  turn h =
      let far = get_or block (i + 254) 0 in
      let a = sum_on block i long (omega arith) in
      let b = sum_on block (i + 254) long (omega arith) in
      let e : i + 254 + 1 ≡ i + 1 + 254 = omega arith in
      let m : (i + 254 + 1) * far ≡ (i + 1) * far + 254 * far = ap (λ k. k * far) e ∙ add-mul (i + 1) 254 far in
      let r : rest block (i + 254 + 1) ≡ rest block (i + 1 + 254) = ap (rest block) e in
      omega arith

  pub halves_done : i ≤ 254 → 254 ≤ i → total ≡ sum_from 0 (take records_end block)
  halves_done h k =
      let z = sum_done block (i + 254) long (omega arith) in
      let e : i ≡ 254 = omega arith in
      let r : rest block i ≡ rest block 254 = ap (rest block) e in
      omega arith
