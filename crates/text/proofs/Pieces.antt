-- What one writer lays and the next lays behind it is laid at once. Assumes nothing.
use mathlib.Core.Path.{◌≡◌, refl, sym, ap, ◌∙◌}
use mathlib.Core.List.{List, [], ◌∷◌, ◌++◌, append-nil, append_assoc}
use Prim.Native.Nat.{ℕ, ◌+◌, ◌-◌, ◌≤◌, ◌<◌}
use native.Mathlib.Numerals.{add-one}
use native.Mathlib.Omega.{arith}
use lib.ListN.{length, take, drop, set, length-append, length-drop, take-append-drop, drop_of_length-le}
use lib.Seq.{length-take-le, take_all, take_at, drop_at, drop-drop, set_split}
use Rattle.group.specs.Lent.{front}
use Rattle.text.specs.Text.{space, line_feed}
use Rattle.text.specs.LaidAt.{written_at, LaidAt}
use Rattle.text.specs.Written.{spaced, line}

module _ (at : ℕ) (lent : List ℕ) where
  laid_front : (bytes : List ℕ) → written_at at bytes lent ≡ (take at lent ++ bytes) ++ drop (at + length bytes) lent
  laid_front bytes = sym (append_assoc (take at lent) bytes (drop (at + length bytes) lent))

  laid_head : (bytes : List ℕ) → at + length bytes ≤ length lent → length (take at lent ++ bytes) ≡ at + length bytes
  laid_head bytes h =
      let e : length (take at lent) ≡ at = length-take-le at lent (omega arith) in
      length-append (take at lent) bytes ∙ rw e

  -- nothing laid
  pub laid_none : at ≤ length lent → LaidAt at [] lent lent at
  laid_none h =
      let z : at + 0 ≡ at = omega arith in
      record { lays = rw z (sym (take-append-drop at lent)); ends = sym z; fits = h }

  -- one byte, by a store
  pub laid_byte : (byte : ℕ) → at < length lent → LaidAt at (byte ∷ []) lent (set lent at byte) (at + 1)
  laid_byte byte h = record { lays = rw (set_split lent at byte h, add-one); ends = refl; fits = omega arith }

  -- a text, copied to the part from the index on
  pub laid_text : (text part : List ℕ) → at + length text ≤ length lent → part ≡ front text (take (length lent - at) (drop at lent))
      → LaidAt at text lent (take at lent ++ (part ++ drop (length lent - at) (drop at lent))) (at + length text)
  laid_text text part h p =
      let a : take (length lent - at) (drop at lent) ≡ drop at lent = take_all (length lent - at) (drop at lent) (simp length-drop (omega arith)) in
      let z : drop (length lent - at) (drop at lent) ≡ [] = drop_of_length-le (drop at lent) {i = length lent - at} (simp length-drop (omega arith)) in
      record { lays = rw (p, a, z, drop-drop, append-nil); ends = refl; fits = h }

pub laid_then : {at x y : ℕ} (a b : List ℕ) {lent between after : List ℕ} → LaidAt at a lent between x → LaidAt x b between after y → LaidAt at (a ++ b) lent after y
laid_then {at} {x} {y} a b {lent} {between} {after} f g =
    let n : length (take at lent ++ a) ≡ x = laid_head at lent a (omega arith) ∙ sym f.ends in
    let m : between ≡ (take at lent ++ a) ++ drop x lent = f.lays ∙ laid_front at lent a ∙ rw f.ends in
    let t : take x between ≡ take at lent ++ a = rw m (take_at (take at lent ++ a) (drop x lent) x n) in
    let d : drop (x + length b) between ≡ drop (x + length b) lent =
    sym (drop-drop (length b) x between) ∙ ap (drop (length b)) (rw m (drop_at (take at lent ++ a) (drop x lent) x n)) ∙ drop-drop (length b) x lent
    in
    let e : at + length (a ++ b) ≡ x + length b = rw (length-append, f.ends) (omega arith) in
    let k : length between ≡ length lent = rw (m, length-append, n, length-drop) (omega arith) in
    record {
      lays = g.lays ∙ rw (t, d, e, append_assoc, append_assoc);
      ends = g.ends ∙ sym e;
      fits = omega arith;
    }

-- fields behind fields
pub spaced_append : (xs ys : List (List ℕ)) → spaced (xs ++ ys) ≡ spaced xs ++ spaced ys
unfolding spaced
spaced_append [] ys = refl
spaced_append (x ∷ xs) ys = ap (λ (l : List ℕ). space ∷ l) (ap (λ (l : List ℕ). x ++ l) (spaced_append xs ys) ∙ sym (append_assoc x (spaced xs) (spaced ys)))

module _ {at x y : ℕ} {lent between after : List ℕ} where
  -- a space, and a field behind it
  pub laid_field : (field : List ℕ) → LaidAt at (space ∷ []) lent between x → LaidAt x field between after y → LaidAt at (spaced (field ∷ [])) lent after y
  unfolding spaced
  laid_field field f g = rw append-nil (laid_then (space ∷ []) field f g)

  pub laid_fields : (fields others : List (List ℕ)) → LaidAt at (spaced fields) lent between x → LaidAt x (spaced others) between after y
      → LaidAt at (spaced (fields ++ others)) lent after y
  laid_fields fields others f g = rw spaced_append (laid_then (spaced fields) (spaced others) f g)

module _ {x y z : ℕ} {lent between behind after : List ℕ} where
  -- a line: its first field, the others, and the line feed
  pub laid_line : (first : List ℕ) (rest : List (List ℕ)) → LaidAt 0 first lent between x → LaidAt x (spaced rest) between behind y → LaidAt y (line_feed ∷ []) behind after z
      → LaidAt 0 (line (first ∷ rest)) lent after z
  laid_line first rest f g h = laid_then first (spaced rest ++ (line_feed ∷ [])) f (laid_then (spaced rest) (line_feed ∷ []) g h)
