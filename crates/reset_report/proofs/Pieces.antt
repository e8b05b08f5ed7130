-- One member more of a mask, and fields behind those of a line that is begun. Assumes nothing.
use mathlib.Core.Path.{◌≡◌, sym, ap, ◌∙◌}
use mathlib.Core.Bool.{true, false}
use mathlib.Core.List.{List, [], ◌∷◌, ◌++◌, map, map-append, append_assoc}
use Prim.Native.Nat.{ℕ, ◌+◌}
use native.Mathlib.Numerals.{add-one}
use Rattle.group.specs.Choice.{when◌then◌else◌}
use Rattle.group.specs.Members.{is_in}
use Rattle.text.specs.LaidAt.{LaidAt}
use Rattle.text.specs.Written.{decimal_of, spaced}
use Rattle.text.proofs.Pieces.{laid_then, spaced_append}
use Rattle.reset_report.specs.Print.{listed_at, members_below}

module _ (mask i : ℕ) where
  pub members_on : map decimal_of (members_below mask (i + 1)) ≡ map decimal_of (members_below mask i) ++ map decimal_of (listed_at mask i)
  unfolding members_below
  members_on = rw (add-one i) (map-append decimal_of (members_below mask i) (listed_at mask i))

  pub listed : is_in mask i ≡ true → map decimal_of (listed_at mask i) ≡ decimal_of i ∷ []
  unfolding listed_at when◌then◌else◌
  listed e = rw e

  pub unlisted : is_in mask i ≡ false → map decimal_of (listed_at mask i) ≡ []
  unfolding listed_at when◌then◌else◌
  unlisted e = rw e

pub laid_more : {x y : ℕ} {lent between after : List ℕ} (name : List ℕ) (fields others : List (List ℕ)) → LaidAt 0 (name ++ spaced fields) lent between x
    → LaidAt x (spaced others) between after y → LaidAt 0 (name ++ spaced (fields ++ others)) lent after y
laid_more name fields others f g =
    let e : name ++ spaced (fields ++ others) ≡ (name ++ spaced fields) ++ spaced others =
    ap (λ (l : List ℕ). name ++ l) (spaced_append fields others) ∙ sym (append_assoc name (spaced fields) (spaced others))
    in
    rw e (laid_then (name ++ spaced fields) (spaced others) f g)
