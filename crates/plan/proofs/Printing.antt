-- The plan of a table, row by row: how long it is, and that each row is laid behind those before it. Assumes nothing.
use mathlib.Core.Path.{◌≡◌, refl, sym, ap, ◌∙◌}
use mathlib.Core.List.{List, [], ◌∷◌, ◌++◌, append_assoc, append-nil}
use Prim.Native.Nat.{ℕ, ◌+◌, ◌-◌, ◌≤◌, ◌<◌}
use native.Mathlib.Omega.{arith}
use native.Mathlib.Numerals.{add-one}
use lib.ListN.{length, get_or, take, drop, length-append, length-drop, length-map, take-append-drop}
use lib.Seq.{length-take-le, take-suc, take_all}
use Rattle.std.proofs.lemmas.List.{get_or-map}
use Rattle.big_endian.specs.Number.{number_at, bytes_of}
use Rattle.big_endian.proofs.Number.{bytes_of-length}
use Rattle.plan.specs.declared.Row.{Row}
use Rattle.plan.specs.Table.{starts_of, length_before, Stands, AllStand, row_at, plan_at}

pub row_length : (journal : List ℕ) (start : ℕ) → Stands journal start → length (row_at journal start) ≡ length_before journal start + 1
unfolding row_at
row_length journal start s =
    let l = length_before journal start in
    let d = length-drop (start + 3) journal in
    let n = s.long in
    let e = s.ends in
    let t : length (take (l - 3) (drop (start + 3) journal)) ≡ l - 3 = length-take-le (l - 3) (drop (start + 3) journal) (omega arith) in
    let u = bytes_of-length 2 (number_at 2 journal (start + 1)) in
    let v = bytes_of-length 2 (l - 3) in
    let a = length-append (bytes_of 2 (number_at 2 journal (start + 1))) (bytes_of 2 (l - 3) ++ take (l - 3) (drop (start + 3) journal)) in
    let b = length-append (bytes_of 2 (l - 3)) (take (l - 3) (drop (start + 3) journal)) in
    omega arith

module _ (journal : List ℕ) where
  pub plan_append : (a b : List ℕ) → plan_at journal (a ++ b) ≡ plan_at journal a ++ plan_at journal b
  unfolding plan_at
  plan_append [] b = refl
  plan_append (s ∷ a) b = ap (λ (l : List ℕ). row_at journal s ++ l) (plan_append a b) ∙ sym (append_assoc (row_at journal s) (plan_at journal a) (plan_at journal b))

  -- one row more
  pub plan_on : (places : List ℕ) (i : ℕ) → i < length places → plan_at journal (take (i + 1) places) ≡ plan_at journal (take i places) ++ row_at journal (get_or places i 0)
  unfolding plan_at
  plan_on places i h =
      rw (add-one i, take-suc places i 0 h) (plan_append (take i places) (get_or places i 0 ∷ []) ∙ ap (λ (l : List ℕ). plan_at journal (take i places) ++ l) (append-nil _))

  -- what is laid so far, the next row and the rest are the whole
  pub plan_room : (places : List ℕ) (i : ℕ) → i < length places → Stands journal (get_or places i 0)
      → length (plan_at journal (take i places)) + length_before journal (get_or places i 0) + 1 ≤ length (plan_at journal places)
  plan_room places i h s =
      let e = ap length (sym (ap (plan_at journal) (take-append-drop (i + 1) places)) ∙ plan_append (take (i + 1) places) (drop (i + 1) places)) in
      let a = length-append (plan_at journal (take (i + 1) places)) (plan_at journal (drop (i + 1) places)) in
      let o = ap length (plan_on places i h) in
      let b = length-append (plan_at journal (take i places)) (row_at journal (get_or places i 0)) in
      let r = row_length journal (get_or places i 0) s in
      omega arith

-- what is read past the end of a table
abbrev pub no_row : Row
no_row = record { unit = 0; start = 0 }

-- the same of the rows of a table
module _ (journal : List ℕ) (rows : List Row) (i : ℕ) (h : i < length rows) (all : AllStand journal (starts_of rows)) where
  abbrev start : ℕ
  start = (get_or rows i no_row).start

  entry : get_or (starts_of rows) i 0 ≡ start
  entry = get_or-map (λ (row : Row). row.start) rows i no_row 0 h

  pub starts_length : length (starts_of rows) ≡ length rows
  starts_length = length-map rows (λ (row : Row). row.start)

  pub stands_at : Stands journal start
  stands_at = let n = starts_length in rw entry at (all i (omega arith))

  pub table_on : plan_at journal (take (i + 1) (starts_of rows)) ≡ plan_at journal (take i (starts_of rows)) ++ row_at journal start
  table_on = let n = starts_length in rw entry at (plan_on journal (starts_of rows) i (omega arith))

  pub table_size : length (plan_at journal (take (i + 1) (starts_of rows))) ≡ length (plan_at journal (take i (starts_of rows))) + (length_before journal start + 1)
  table_size =
      ap length table_on ∙ length-append (plan_at journal (take i (starts_of rows))) (row_at journal start)
      ∙ ap (λ (n : ℕ). length (plan_at journal (take i (starts_of rows))) + n) (row_length journal start stands_at)

  pub table_room_lem : length (plan_at journal (take i (starts_of rows))) + length_before journal start + 1 ≤ length (plan_at journal (starts_of rows))
  table_room_lem = let n = starts_length in rw entry at (plan_room journal (starts_of rows) i (omega arith) (rw entry stands_at))

-- all of them
pub table_all : (journal : List ℕ) (rows : List Row) (i : ℕ) → length rows ≤ i → plan_at journal (take i (starts_of rows)) ≡ plan_at journal (starts_of rows)
table_all journal rows i e =
    let n = length-map rows (λ (row : Row). row.start) in
    ap (plan_at journal) (take_all i (starts_of rows) (omega arith))
