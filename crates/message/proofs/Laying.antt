-- A list is laid over the front of another, an element a turn; and a payload with zeros filled in behind it is the payload with
-- zeros behind it, whatever stood there. Assumes nothing.
use mathlib.Core.Path.{◌≡◌, refl, sym, ap, ◌∙◌}
use mathlib.Core.List.{List, [], ◌∷◌, ◌++◌, append-nil}
use Prim.Native.Nat.{ℕ, zero, suc, ◌+◌, ◌-◌, ◌≤◌, ◌<◌}
use native.Mathlib.Nat.{le_of_suc-le-suc, not-suc-le-zero}
use native.Mathlib.Numerals.{add-one}
use native.Mathlib.Omega.{arith}
use lib.ListN.{length, take, drop, get_or, set, replicate, length-append, length-drop, length-replicate, get_or-replicate, take-append-drop, drop_of_length-le}
use lib.Seq.{length-take-le, take_at, take_all, get_or-append-add}
use Rattle.group.specs.Limits.{payload_most}
use Rattle.group.specs.Lent.{front}
use Rattle.message.specs.Message.{zeroed_from, padded}

module _ {A : Type 0} where
  -- the first i elements of a list, over those of another
  abbrev pub over : ℕ → List A → List A → List A
  over i list below = take i list ++ drop i below

  next : (list below : List A) (i : ℕ) (d : A) → i < length list → i < length below → set (over i list below) i (get_or list i d) ≡ over (suc i) list below
  next [] below i d h k = absurd (not-suc-le-zero h)
  next (x ∷ list) [] i d h k = absurd (not-suc-le-zero k)
  next (x ∷ list) (y ∷ below) zero d h k = refl
  next (x ∷ list) (y ∷ below) (suc i) d h k = ap (λ (l : List A). x ∷ l) (next list below i d (le_of_suc-le-suc h) (le_of_suc-le-suc k))

  -- one element more
  pub over_next : (list below : List A) (i : ℕ) (x d : A) → get_or list i d ≡ x → i < length list → i < length below → set (over i list below) i x ≡ over (i + 1) list below
  over_next list below i x d e h k = rw (add-one i, sym e) (next list below i d h k)

  -- all of them
  pub over_all : (list below : List A) (i : ℕ) → i ≡ length list → over i list below ≡ list ++ drop (length list) below
  over_all list below i e = rw e (ap (λ (l : List A). l ++ drop (length list) below) (take_all (length list) list (omega arith)))

-- what is filled with zeros from an index on is as long as it was, begins as it did, and has zeros from there on
module _ (from : ℕ) (bytes : List ℕ) (fits : from ≤ length bytes) where
  pub zeroed_length : length (zeroed_from from bytes) ≡ length bytes
  zeroed_length =
      let t = length-take-le from bytes fits in
      let z = length-replicate {A = ℕ} (length bytes - from) 0 in
      length-append (take from bytes) (replicate (length bytes - from) 0) ∙ omega (arith, t, z)

  pub zeroed_start : over from (zeroed_from from bytes) bytes ≡ bytes
  zeroed_start =
      ap (λ (l : List ℕ). l ++ drop from bytes) (take_at (take from bytes) (replicate (length bytes - from) 0) from (length-take-le from bytes fits))
      ∙ take-append-drop from bytes

  pub zeroed_end : (i : ℕ) → i ≡ length bytes → over i (zeroed_from from bytes) bytes ≡ zeroed_from from bytes
  zeroed_end i e =
      rw (drop_of_length-le bytes {i = i} (omega arith), take_all i (zeroed_from from bytes) (let n = zeroed_length in omega (arith, n)))
      (append-nil (zeroed_from from bytes))

  pub zeroed_zero : (i : ℕ) → from ≤ i → i < length bytes → get_or (zeroed_from from bytes) i 0 ≡ 0
  zeroed_zero i h k =
      let t = length-take-le from bytes fits in
      let e : i ≡ length (take from bytes) + (i - from) = omega (arith, t) in
      ap (λ (j : ℕ). get_or (zeroed_from from bytes) j 0) e
      ∙ get_or-append-add (take from bytes) (replicate (length bytes - from) 0) (i - from) 0
      ∙ get_or-replicate (length bytes - from) (i - from) 0 0 (omega arith)

-- a payload over bytes of the limit's number, and zeros filled in behind it
pub laid_padded : (payload bytes : List ℕ) → length payload ≤ payload_most → length bytes ≡ payload_most
    → zeroed_from (length payload) (front payload bytes) ≡ padded payload
laid_padded payload bytes h e =
    let n : length (front payload bytes) ≡ payload_most = let d = length-drop (length payload) bytes in length-append payload (drop (length payload) bytes) ∙ omega (arith, d) in
    rw (n, take_at payload (drop (length payload) bytes) (length payload) refl)
