-- The plan's bytes say what its rows are, so that no fewer records come to them. Assumes nothing.
use mathlib.Core.Path.{◌≡◌, refl, sym, ap, ◌∙◌}
use mathlib.Core.Bool.{true}
use mathlib.Core.List.Memᴰ
use mathlib.Core.List.{List, [], ◌∷◌, ◌++◌, map}
use Prim.Native.Nat.{ℕ, ◌≤◌, ◌<◌}
use native.Mathlib.Omega.{arith}
use borrow.Author.Tests.{leb-true}
use lib.ListN.{length, take, drop, length-append, length-drop, length-map}
use lib.Seq.{take_at, drop_at}
use Rattle.group.specs.Limits.{payload_most}
use Rattle.group.proofs.Choice.{both_first}
use Rattle.message.specs.Order.{Ordered}
use Rattle.big_endian.specs.Laws.{Bytes}
use Rattle.big_endian.specs.Number.{number_at, bytes_of}
use Rattle.big_endian.proofs.Number.{bytes_of-length, number_of_bytes, number_fits}
use Rattle.plan.specs.Units.{sets, unit_of, description_of, latest, plan_bytes}
use Rattle.plan.specs.Laws.{◌among◌, Short, OfBytes, SameBytesSameRows, FewestRecords}
use Rattle.plan.proofs.Counting.{one_each, no_more}
use Rattle.plan.proofs.Rows.{row_of}

-- equal lists have equal fronts of one length, and equal rests
parted : (a b c d : List ℕ) → length a ≡ length b → a ++ c ≡ b ++ d → (a ≡ b) × (c ≡ d)
parted a b c d l e = (
  sym (take_at a c (length b) l) ∙ ap (take (length b)) e ∙ take_at b d (length b) refl,
  sym (drop_at a c (length b) l) ∙ ap (drop (length b)) e ∙ drop_at b d (length b) refl,
)

two_parted : (u v : ℕ) (c d : List ℕ) → bytes_of 2 u ++ c ≡ bytes_of 2 v ++ d → (bytes_of 2 u ≡ bytes_of 2 v) × (c ≡ d)
two_parted u v c d e = parted (bytes_of 2 u) (bytes_of 2 v) c d (bytes_of-length 2 u ∙ sym (bytes_of-length 2 v)) e

-- two bytes hold one number
two_same : (u v : ℕ) → u < 65536 → v < 65536 → bytes_of 2 u ≡ bytes_of 2 v → u ≡ v
two_same u v h k e = sym (number_of_bytes 2 u [] h) ∙ ap (λ (l : List ℕ). number_at 2 (l ++ []) 0) e ∙ number_of_bytes 2 v [] k

short_length : (m : Ordered) → length m.payload ≤ payload_most → length (description_of m) < 65536
unfolding description_of
short_length m h = let e = length-drop 3 m.payload in omega arith

unit_fits : (m : Ordered) → sets m ≡ true → Bytes m.payload → unit_of m < 65536
unfolding sets unit_of
unit_fits m h b = number_fits m.payload b 2 1 (leb-true 3 (length m.payload) (both_first _ _ h))

-- the parts of the first row
record Parts (m x : Ordered) (rest rest' : List Ordered) : Type 0 where
  unit : bytes_of 2 (unit_of m) ≡ bytes_of 2 (unit_of x)
  description : description_of m ≡ description_of x
  behind : plan_bytes rest ≡ plan_bytes rest'

parts : (m x : Ordered) (rest rest' : List Ordered) → length m.payload ≤ payload_most → length x.payload ≤ payload_most
    → plan_bytes (m ∷ rest) ≡ plan_bytes (x ∷ rest') → Parts m x rest rest'
unfolding plan_bytes
parts m x rest rest' h k e =
    let dm = description_of m in
    let dx = description_of x in
    let unit = two_parted (unit_of m) (unit_of x) (bytes_of 2 (length dm) ++ (dm ++ plan_bytes rest)) (bytes_of 2 (length dx) ++ (dx ++ plan_bytes rest')) e in
    let size = two_parted (length dm) (length dx) (dm ++ plan_bytes rest) (dx ++ plan_bytes rest') unit.1 in
    let same = two_same (length dm) (length dx) (short_length m h) (short_length x k) size.0 in
    let text = parted dm dx (plan_bytes rest) (plan_bytes rest') same size.1 in
    record { unit = unit.0; description = text.0; behind = text.1 }

-- no rows have no bytes, and only they
row_has_bytes : (m : Ordered) (rest : List Ordered) → plan_bytes [] ≡ plan_bytes (m ∷ rest) → ⊥
unfolding plan_bytes
row_has_bytes m rest e =
    let l = ap length e in
    let n = length-append (bytes_of 2 (unit_of m)) (bytes_of 2 (length (description_of m)) ++ (description_of m ++ plan_bytes rest)) in
    let b = bytes_of-length 2 (unit_of m) in
    omega arith

same_descriptions : (rows rows' : List Ordered) → Short rows → Short rows' → plan_bytes rows ≡ plan_bytes rows'
    → map description_of rows ≡ map description_of rows'
same_descriptions [] [] s t e = refl
same_descriptions [] (x ∷ rest) s t e = absurd (row_has_bytes x rest e)
same_descriptions (m ∷ rest) [] s t e = absurd (row_has_bytes m rest (sym e))
same_descriptions (m ∷ rest) (x ∷ rest') s t e =
    let p = parts m x rest rest' (s m (Memᴰ.head refl)) (t x (Memᴰ.head refl)) e in
    let d = p.description in
    let r = same_descriptions rest rest' (λ y i. s y (Memᴰ.tail i)) (λ y i. t y (Memᴰ.tail i)) p.behind in
    cc

-- units that fit two bytes
abbrev Two : List Ordered → Type 0
Two rows = (m : Ordered) → m among rows → unit_of m < 65536

same_units : (rows rows' : List Ordered) → Short rows → Short rows' → Two rows → Two rows' → plan_bytes rows ≡ plan_bytes rows'
    → map unit_of rows ≡ map unit_of rows'
same_units [] [] s t b c e = refl
same_units [] (x ∷ rest) s t b c e = absurd (row_has_bytes x rest e)
same_units (m ∷ rest) [] s t b c e = absurd (row_has_bytes m rest (sym e))
same_units (m ∷ rest) (x ∷ rest') s t b c e =
    let p = parts m x rest rest' (s m (Memᴰ.head refl)) (t x (Memᴰ.head refl)) e in
    let u = two_same (unit_of m) (unit_of x) (b m (Memᴰ.head refl)) (c x (Memᴰ.head refl)) p.unit in
    let r = same_units rest rest' (λ y i. s y (Memᴰ.tail i)) (λ y i. t y (Memᴰ.tail i)) (λ y i. b y (Memᴰ.tail i)) (λ y i. c y (Memᴰ.tail i)) p.behind in
    cc

-- what holds of each message holds of each row
short_rows : (ms : List Ordered) → Short ms → Short (latest ms)
short_rows ms s y i = s y (row_of ms y i).0

two_rows : (ms : List Ordered) → OfBytes ms → Two (latest ms)
two_rows ms b y i = let r = row_of ms y i in unit_fits y r.1 (b y r.0)

pub same_bytes_same_rows : SameBytesSameRows
same_bytes_same_rows ms ms' s t b c e = (
  same_units (latest ms) (latest ms') (short_rows ms s) (short_rows ms' t) (two_rows ms b) (two_rows ms' c) e,
  same_descriptions (latest ms) (latest ms') (short_rows ms s) (short_rows ms' t) e,
)

pub fewest_records : FewestRecords
fewest_records ms ms' s t e =
    let n = ap length (same_descriptions (latest ms) (latest ms') (short_rows ms s) (short_rows ms' t) e) in
    let l = length-map (latest ms) description_of in
    let l' = length-map (latest ms') description_of in
    let o = one_each ms in
    let k = no_more ms' in
    omega arith
