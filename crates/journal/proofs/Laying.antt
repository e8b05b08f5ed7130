-- The pieces of a block, laid one behind the other, are the block. Assumes nothing.
use mathlib.Core.Path.{◌≡◌, ap, ◌∙◌}
use mathlib.Core.List.{List, [], ◌++◌, append-nil}
use Prim.Native.Nat.{ℕ, ◌+◌, ◌-◌, ◌≤◌}
use native.Mathlib.Omega.{arith}
use lib.ListN.{length, take, drop, replicate, length-append, drop_of_length-le}
use lib.Seq.{take_at}
use Rattle.big_endian.specs.Number.{bytes_of}
use Rattle.big_endian.proofs.Number.{bytes_of-length}
use Rattle.text.specs.LaidAt.{LaidAt}
use Rattle.text.proofs.Pieces.{laid_then}
use Rattle.journal.specs.Limits.{block_size, records_at, records_end}
use Rattle.journal.specs.Block.{sum_from, framed_by, sealed}
use Rattle.journal.proofs.Blocks.{frame_length}

module _ (begin : List ℕ) (four : length begin ≡ 4) (first records : ℕ) (body : List ℕ) where
  -- what stands before the sum
  pub frame_laid : {a b c d e : ℕ} {lent one two three four after : List ℕ}
      → LaidAt 0 begin lent one a → LaidAt a (bytes_of 4 first) one two b → LaidAt b (bytes_of 2 records) two three c → LaidAt c body three four d
      → LaidAt d (replicate (records_end - d) 0) four after e → LaidAt 0 (framed_by begin first records body) lent after e
  frame_laid {a} {b} {c} {d} f g h i z =
      let p = f.ends in
      let q = g.ends in
      let r = h.ends in
      let s = i.ends in
      let m = bytes_of-length 4 first in
      let n = bytes_of-length 2 records in
      let same : records_end - d ≡ records_end - records_at - length body = omega arith in
      laid_then begin _ f (laid_then (bytes_of 4 first) _ g (laid_then (bytes_of 2 records) _ h (laid_then body _ i (rw same at z))))

  -- and the sum behind it
  module _ {lent between : List ℕ} {a : ℕ} (frame : LaidAt 0 (framed_by begin first records body) lent between a)
      (long : length lent ≡ block_size) (fits : records_at + length body ≤ records_end) where
    pub frame_ends : a ≡ records_end
    frame_ends = let f = frame_length begin four first records body fits in let e = frame.ends in omega arith

    front_is : take records_end between ≡ framed_by begin first records body
    front_is = ap (take records_end) frame.lays ∙ take_at (framed_by begin first records body) _ records_end (frame_length begin four first records body fits)

    pub block_laid : {after : List ℕ} {b total : ℕ} → total ≡ sum_from 0 (take records_end between) → LaidAt a (bytes_of 4 total) between after b
        → after ≡ sealed (framed_by begin first records body)
    block_laid {after} {b} {total} t s =
        let f = framed_by begin first records body in
        let e : total ≡ sum_from 0 f = t ∙ ap (sum_from 0) front_is in
        let l = laid_then f (bytes_of 4 total) frame s in
        let n = frame_length begin four first records body fits in
        let m = bytes_of-length 4 total in
        let k = length-append f (bytes_of 4 total) in
        let z : drop (0 + length (f ++ bytes_of 4 total)) lent ≡ [] = drop_of_length-le lent {i = 0 + length (f ++ bytes_of 4 total)} (omega arith) in
        l.lays ∙ rw (z, append-nil, e)
