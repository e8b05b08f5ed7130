-- What is kept of a line, with a part more. Assumes nothing.
use mathlib.Core.Path.{◌≡◌, sym, ap, ◌∙◌}
use mathlib.Core.List.{List, ◌++◌}
use Prim.Native.Nat.{ℕ, ◌+◌, ◌-◌, ◌≤◌, ◌<◌}
use native.Mathlib.Omega.{arith}
use lib.ListN.{length, take}
use lib.Seq.{length-take-le, take_at, take_all, take-append-le, take-append-add}
use Rattle.group.proofs.Lists.{when_elim, le_or}
use borrow.Author.Tests.{ltb-true, ltb-false}
use Rattle.std.specs.Prelude.{min}
use Rattle.group.specs.Choice.{when◌then◌else◌, ◌<?◌}
use Rattle.player.specs.Feed.{kept_most, kept_of}

-- a test chooses the smaller of two numbers
smaller_is : (a b : ℕ) → min a b ≡ (when a <? b then a else b)
smaller_is a b = when_elim (λ (x : ℕ). min a b ≡ x) (a <? b) (λ t. let z = ltb-true a b t in omega arith) (λ t. let z = ltb-false a b t in omega arith)

-- the smaller of two numbers is at most each
pub min_fits : (a b r : ℕ) → r ≡ min a b → (r ≤ a) × (r ≤ b)
min_fits a b r e = (omega arith, omega arith)

-- the same of one that a test chose
pub smaller_fits : (a b r : ℕ) → r ≡ (when a <? b then a else b) → (r ≤ a) × (r ≤ b)
smaller_fits a b r e = min_fits a b r (e ∙ sym (smaller_is a b))

-- as much of a part as is kept
part_kept : (part : List ℕ) (room : ℕ) → take (min (length part) room) part ≡ take room part
part_kept part room =
    le_or (length part) room
    (λ h. let e : min (length part) room ≡ length part = omega arith in rw e (take_all (length part) part (omega arith) ∙ sym (take_all room part h)))
    (λ h. let e : min (length part) room ≡ room = omega arith in rw e)

-- what has room is kept
pub kept_with : (bytes part behind : List ℕ) (from size : ℕ) → from ≤ length bytes → from ≤ kept_most → size ≡ min (length part) (kept_most - from)
    → take (from + size) (take from bytes ++ (take size part ++ behind)) ≡ kept_of (take from bytes ++ part)
kept_with bytes part behind from size h k e =
    let n = length-take-le from bytes h in
    let l = length-take-le size part (min_fits (length part) (kept_most - from) size e).0 in
    let seam : take (from + size) (take from bytes ++ (take size part ++ behind)) ≡ take from bytes ++ take size (take size part ++ behind) =
    ap (λ (x : ℕ). take (x + size) (take from bytes ++ (take size part ++ behind))) (sym n) ∙ take-append-add (take from bytes) (take size part ++ behind) size in
    let whole : take size (take size part ++ behind) ≡ take size part = take_at (take size part) behind size l in
    let last : take size part ≡ take (kept_most - from) part = ap (λ (x : ℕ). take x part) e ∙ part_kept part (kept_most - from) in
    let sum : from + (kept_most - from) ≡ kept_most = omega arith in
    let kept : kept_of (take from bytes ++ part) ≡ take from bytes ++ take (kept_most - from) part =
    ap (λ (x : ℕ). take x (take from bytes ++ part)) (sym sum)
    ∙ ap (λ (x : ℕ). take (x + (kept_most - from)) (take from bytes ++ part)) (sym n)
    ∙ take-append-add (take from bytes) part (kept_most - from) in
    seam ∙ ap (λ (x : List ℕ). take from bytes ++ x) (whole ∙ last) ∙ sym kept

-- a line that is cut and goes on is cut as the whole is
pub kept_kept : (line part : List ℕ) → kept_of (kept_of line ++ part) ≡ kept_of (line ++ part)
kept_kept line part =
    le_or (length line) kept_most
    (λ h. ap (λ (x : List ℕ). kept_of (x ++ part)) (take_all kept_most line h))
    (λ h.
    let n = length-take-le kept_most line (omega arith) in
    take-append-le kept_most (kept_of line) part (omega arith) ∙ take_all kept_most (kept_of line) (omega arith)
    ∙ sym (take-append-le kept_most line part (omega arith)))

-- a size past the end of a text takes it whole
pub whole_min : (text : List ℕ) (size most : ℕ) → length text ≡ most → take (min size most) text ≡ take size text
whole_min text size most n =
    le_or size most
    (λ h. let e : min size most ≡ size = omega arith in rw e)
    (λ h. let e : min size most ≡ most = omega arith in rw e (take_all most text (omega arith) ∙ sym (take_all size text (omega arith))))

-- the same of one that a test chose
pub whole_text : (text : List ℕ) (size most : ℕ) → length text ≡ most → take (when size <? most then size else most) text ≡ take size text
whole_text text size most n = ap (λ (k : ℕ). take k text) (sym (smaller_is size most)) ∙ whole_min text size most n

-- the smaller of two numbers is 0, and the second is not
pub min_zero : (a b r : ℕ) → 0 < b → r ≡ min a b → r ≡ 0 → a ≡ 0
min_zero a b r h e z = omega arith
