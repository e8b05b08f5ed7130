-- A line that is laid whole, or not at all, and numbers that are laid one by one. Assumes nothing.
use mathlib.Core.Path.{◌≡◌, refl, sym, ◌∙◌}
use mathlib.Core.List.{List, [], ◌∷◌, ◌++◌, map, map-append, append_assoc}
use Prim.Native.Nat.{ℕ, ◌+◌, ◌-◌, ◌*◌, ◌/◌, ◌≤◌, ◌<◌}
use Rattle.std.proofs.Math.Nat.{le-div_iff_mul-le, mul_comm}
use mathlib.Core.Bool.{false}
use native.Mathlib.Nat.{not-le_of_lt}
use native.Mathlib.Numerals.{add-one}
use native.Mathlib.Omega.{arith}
use borrow.Author.Tests.{le-leb, lt-leb}
use lib.ListN.{length, get_or, take}
use lib.Seq.{take-suc}
use Rattle.group.specs.Choice.{when◌then◌else◌, ◌≤?◌}
use Rattle.group.specs.Lent.{front}
use Rattle.group.proofs.Choice.{when_le, when_nle}
use Rattle.group.proofs.Lists.{le_or}
use Rattle.text.specs.Text.{line_feed}
use Rattle.text.specs.Written.{decimal_of, spaced, line}
use Rattle.text.specs.LaidAt.{LaidAt}
use Rattle.text.proofs.Pieces.{laid_then, spaced_append}
use Rattle.report.specs.Print.{fitting}

-- a line, where some of its fields are laid with the first
pub laid_longer : {x y z : ℕ} {lent between behind after : List ℕ} (first : List ℕ) (fields rest : List (List ℕ)) → LaidAt 0 (first ++ spaced fields) lent between x → LaidAt x (spaced rest) between behind y
    → LaidAt y (line_feed ∷ []) behind after z → LaidAt 0 (line (first ∷ (fields ++ rest))) lent after z
laid_longer first fields rest f g h =
    let e : line (first ∷ (fields ++ rest)) ≡ (first ++ spaced fields) ++ (spaced rest ++ (line_feed ∷ [])) = rw spaced_append (simp append_assoc) in
    rw e (laid_then (first ++ spaced fields) (spaced rest ++ (line_feed ∷ [])) f (laid_then (spaced rest) (line_feed ∷ []) g h))

-- a line that was laid from the front on where the room was there, and nothing where it was not
module _ (asked : ℕ) (bytes lent : List ℕ) where
  pub written : (size : ℕ) (after : List ℕ) → asked ≤ length lent → LaidAt 0 bytes lent after size
      → (size ≡ length (fitting asked (length lent) bytes)) × (after ≡ front (fitting asked (length lent) bytes) lent)
  unfolding fitting
  written size after h f =
      let e : when asked ≤? length lent then bytes else [] ≡ bytes = sym (when_le asked (length lent) bytes bytes [] h refl) in
      let z : 0 + length bytes ≡ length bytes = omega arith in
      (rw e (f.ends ∙ z), rw e (f.lays ∙ rw z))

  pub unwritten : length lent < asked → (◌≡◌ {A = ℕ} 0 (length (fitting asked (length lent) bytes))) × (lent ≡ front (fitting asked (length lent) bytes) lent)
  unfolding fitting
  unwritten h =
      let e : when asked ≤? length lent then bytes else [] ≡ [] = sym (when_nle asked (length lent) [] bytes [] h refl) in
      (rw e, rw e)

-- two tests that hold together are equal
pub same_test : (a b c d : ℕ) → (a ≤ b → c ≤ d) → (c ≤ d → a ≤ b) → (a ≤? b) ≡ (c ≤? d)
same_test a b c d f g =
    le_or a b (λ h. le-leb a b h ∙ sym (le-leb c d (f h)))
    (λ h. lt-leb a b h ∙ sym (le_or c d (λ k. absurd (not-le_of_lt h (g k))) (λ k. lt-leb c d k)))

-- whether there is room beside a line for so many things more: it is divided, which asks the same
module _ (each count line room : ℕ) where
  pub room_test : 0 < each → line ≤ room → (count ≤? (room - line) / each) ≡ (line + each * count ≤? room)
  room_test p h =
      let e : count * each ≡ each * count = mul_comm count each in
      let d = le-div_iff_mul-le {k = each} {x = count} {y = room - line} p in
      same_test count ((room - line) / each) (line + each * count) room (λ k. let m = d.0 k in omega arith) (λ k. d.1 (omega arith))

  pub no_room : room < line → (line + each * count ≤? room) ≡ false
  no_room h = lt-leb (line + each * count) room (omega arith)

-- one number more of several
pub each_on : (l : List ℕ) (i : ℕ) → i < length l → map decimal_of (take (i + 1) l) ≡ map decimal_of (take i l) ++ (decimal_of (get_or l i 0) ∷ [])
each_on l i h = rw (add-one i, take-suc l i 0 h) (map-append decimal_of (take i l) (get_or l i 0 ∷ []))
