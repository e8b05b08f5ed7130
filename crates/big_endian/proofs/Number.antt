-- A number's bytes, k of them, have the number, and a number that stands in k bytes has those bytes: by induction on the width.
-- Assumes nothing.
use mathlib.Core.Path.{◌≡◌, refl, sym, ◌∙◌}
use mathlib.Core.List.{List, [], ◌∷◌, ◌++◌, append_assoc}
use Prim.Native.Nat.{ℕ, zero, suc, ◌+◌, ◌*◌, ◌/◌, ◌%◌, ◌^◌, ◌≤◌, ◌<◌}
use native.Mathlib.Nat.{div-add-mod', div-div-eq-div-mul, pow-suc}
use native.Mathlib.Omega.{arith}
use lib.ListN.{length, get_or, take, drop, length-append, length-drop, take-append-drop}
use lib.Seq.{take-suc, get_or_at, get_or-take, get_or-drop, drop-drop}
use Rattle.std.specs.Int.{w16, w32, from_be_bytes, to_be_bytes}
use Rattle.big_endian.specs.Laws.{Bytes, NumberOfBytes, BytesOfNumber}
use Rattle.big_endian.specs.Number.{number_at, bytes_of}

pub bytes_of-length : (k v : ℕ) → length (bytes_of k v) ≡ k
unfolding bytes_of
bytes_of-length zero v = refl
bytes_of-length (suc k) v = length-append (bytes_of k (v / 256)) (v % 256 ∷ []) ∙ (let z = bytes_of-length k (v / 256) in omega arith)

pub number_of_bytes : NumberOfBytes
unfolding number_at bytes_of
number_of_bytes zero v rest h = omega arith
number_of_bytes (suc k) v rest h =
    let b : v / 256 < 256 ^ k = omega (arith, pow-suc 256 k) in
    let e : 0 + k ≡ k = omega arith in
    rw (append_assoc (bytes_of k (v / 256)) (v % 256 ∷ []) rest, number_of_bytes k (v / 256) (v % 256 ∷ rest) b, e, get_or_at (bytes_of k (v / 256)) (v % 256) rest 0 k (bytes_of-length k (v / 256))) (div-add-mod' v 256)

-- where it stands does not matter
pub number_behind : (k : ℕ) (p : List ℕ) (i : ℕ) → number_at k p i ≡ number_at k (drop i p) 0
unfolding number_at
number_behind zero p i = refl
number_behind (suc k) p i =
    let e : 0 + k ≡ k = omega arith in
    rw (number_behind k p i, e, get_or-drop i p k 0)

pub bytes_of_number : BytesOfNumber
unfolding Bytes number_at bytes_of
bytes_of_number p bytes zero i h = refl
bytes_of_number p bytes (suc k) i h =
    let b = bytes (i + k) (omega arith) in
    let q : (number_at k p i * 256 + get_or p (i + k) 0) / 256 ≡ number_at k p i = omega arith in
    let r : (number_at k p i * 256 + get_or p (i + k) 0) % 256 ≡ get_or p (i + k) 0 = omega arith in
    rw (q, r, bytes_of_number p bytes k i (omega arith), ← (get_or-drop i p k 0)) (sym (take-suc (drop i p) k 0 (simp length-drop (omega arith))))

module _ (p : List ℕ) (bytes : Bytes p) where
  -- a number in k bytes fits them
  pub number_fits : (k i : ℕ) → i + k ≤ length p → number_at k p i < 256 ^ k
  unfolding Bytes number_at
  number_fits zero i h = omega arith
  number_fits (suc k) i h =
      let b = bytes (i + k) (omega arith) in
      let n = number_fits k i (omega arith) in
      omega (arith, pow-suc 256 k)

  -- the bytes of the number in k bytes, and what stands behind them
  pub bytes_of_number_then : (k i : ℕ) → i + k ≤ length p → bytes_of k (number_at k p i) ++ drop (i + k) p ≡ drop i p
  bytes_of_number_then k i h = rw (bytes_of_number p bytes k i h, ← (drop-drop k i p)) (take-append-drop k (drop i p))

-- bytes in front of bytes are bytes
pub bytes_cons : (b : ℕ) (l : List ℕ) → b < 256 → Bytes l → Bytes (b ∷ l)
unfolding Bytes
bytes_cons b l f g zero h = f
bytes_cons b l f g (suc i) h = g i (omega arith)

pub bytes_append : (l m : List ℕ) → Bytes l → Bytes m → Bytes (l ++ m)
unfolding Bytes
bytes_append [] m f g = g
bytes_append (b ∷ l) m f g = bytes_cons b (l ++ m) (f 0 (omega arith)) (bytes_append l m (λ i h. f (suc i) (omega arith)) g)

pub bytes_of-bytes : (k v : ℕ) → Bytes (bytes_of k v)
unfolding Bytes bytes_of
bytes_of-bytes zero v = λ i h. absurd (omega arith)
bytes_of-bytes (suc k) v = bytes_append (bytes_of k (v / 256)) (v % 256 ∷ []) (bytes_of-bytes k (v / 256)) (bytes_cons (v % 256) [] (omega arith) (λ i h. absurd (omega arith)))

byte : (p : List ℕ) (i k j : ℕ) → j < k → get_or (take k (drop i p)) j 0 ≡ get_or p (i + j) 0
byte p i k j h = simp (get_or-take k (drop i p) j 0 h, get_or-drop)

-- the library's readings of two and of four bytes, and its bytes of a number, are those of the definitions
pub number_two : (p : List ℕ) (i : ℕ) → from_be_bytes w16 (take 2 (drop i p)) ≡ number_at 2 p i
unfolding number_at
number_two p i = simp (byte p i 2 0 (omega arith), byte p i 2 1 (omega arith)) (omega arith)

pub number_four : (p : List ℕ) (i : ℕ) → from_be_bytes w32 (take 4 (drop i p)) ≡ number_at 4 p i
unfolding number_at
number_four p i =
    simp (byte p i 4 0 (omega arith), byte p i 4 1 (omega arith), byte p i 4 2 (omega arith), byte p i 4 3 (omega arith)) (omega arith)

pub bytes_two : (v : ℕ) → to_be_bytes w16 v ≡ bytes_of 2 v
unfolding bytes_of
bytes_two v = refl

pub bytes_four : (v : ℕ) → to_be_bytes w32 v ≡ bytes_of 4 v
unfolding bytes_of
bytes_four v = simp div-div-eq-div-mul refl
