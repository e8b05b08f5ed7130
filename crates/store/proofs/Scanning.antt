-- The bytes of a block, each under its byte of the mask, are zero exactly if those from the index on are; and a part is zero from an index on
-- exactly if the index's block is from there on, and all behind it. Assumes nothing.
use mathlib.Core.Path.{◌≡◌, refl, sym, ap, ◌∙◌}
use mathlib.Core.Logic.{◌⊎◌, inl, inr}
use mathlib.Core.Bool.{Bool, true, false}
use mathlib.Core.List.{List, [], ◌∷◌, ◌++◌}
use Prim.Native.Nat.{ℕ, zero, suc, ◌+◌, ◌*◌, ◌-◌, ◌≤◌, ◌<◌, ◌^◌}
use native.Mathlib.Omega.{arith}
use lib.Bits.{bit_and, bit_or, and_zero_r, and_mask}
use lib.ListN.{length, get_or, take, drop, replicate, length-replicate, length-drop, take-append-drop}
use lib.Seq.{drop-drop, drop-append-le, take-append-add, length-take-le, take_all}
use Rattle.std.proofs.lemmas.List.{drop-replicate, take-replicate}
use Rattle.group.specs.Choice.{when◌then◌else◌, ◌and◌, ◌=?◌}
use Rattle.group.proofs.Choice.{when_true, first_fails}
use Rattle.message.specs.Message.{all_zero}
use Rattle.message.proofs.Zero.{and_assoc, and_true, or_zero, zero_append}
use Rattle.store.specs.Places.{block_size, mask_of}

pub mask_length : length mask_of ≡ block_size + block_size
unfolding mask_of
mask_length = refl

-- each byte under its byte of the mask
unfoldable pub under : List ℕ → List ℕ → List ℕ
under [] bits = []
under (x ∷ xs) [] = []
under (x ∷ xs) (y ∷ ys) = bit_and x y ∷ under xs ys

-- one byte after the other is joined by `|`
pub under_next : (seen x y : ℕ) (xs ys bytes bits : List ℕ) → bytes ≡ x ∷ xs → bits ≡ y ∷ ys
    → (bit_or seen (bit_and x y) =? 0) and all_zero (under xs ys) ≡ (seen =? 0) and all_zero (under bytes bits)
unfolding under all_zero
under_next seen x y xs ys bytes bits e f =
    rw (e, f, or_zero seen (bit_and x y)) (and_assoc (seen =? 0) (bit_and x y =? 0) (all_zero (under xs ys)))

-- nothing is left of one of them
pub under_end : (seen : ℕ) (bytes bits : List ℕ) → (length bytes ≡ 0) ⊎ (length bits ≡ 0) → (seen =? 0) ≡ (seen =? 0) and all_zero (under bytes bits)
unfolding under all_zero
under_end seen [] bits h = sym (and_true (seen =? 0))
under_end seen (x ∷ xs) [] h = sym (and_true (seen =? 0))
under_end seen (x ∷ xs) (y ∷ ys) (inl e) = absurd (let z : suc (length xs) ≡ 0 = e in omega arith)
under_end seen (x ∷ xs) (y ∷ ys) (inr e) = absurd (let z : suc (length ys) ≡ 0 = e in omega arith)

-- ones keep a byte, and zeros hide it
under_ones : (bytes : List ℕ) (k : ℕ) → ((i : ℕ) → get_or bytes i 0 < 2 ^ 8) → length bytes ≡ k → under bytes (replicate k 255) ≡ bytes
unfolding under
under_ones [] k fits e = refl
under_ones (x ∷ xs) zero fits e = absurd (let z : suc (length xs) ≡ 0 = e in omega arith)
under_ones (x ∷ xs) (suc k) fits e =
    let h : x < 2 ^ 8 = fits 0 in
    let a : bit_and x 255 ≡ x = and_mask x 8 ∙ (omega arith) in
    rw (a, under_ones xs k (λ i. fits (suc i)) (let z : suc (length xs) ≡ suc k = e in omega arith)) refl

under_zeros : (bytes : List ℕ) (from k : ℕ) → ((i : ℕ) → get_or bytes i 0 < 2 ^ 8) → length bytes ≡ from + k
    → all_zero (under bytes (replicate from 0 ++ replicate k 255)) ≡ all_zero (drop from bytes)
unfolding under all_zero when◌then◌else◌
under_zeros bytes zero k fits e = ap all_zero (under_ones bytes k fits (omega (arith, e)))
under_zeros [] (suc from) k fits e = refl
under_zeros (x ∷ xs) (suc from) k fits e =
    rw (and_zero_r x) (under_zeros xs from k (λ i. fits (suc i)) (let z : suc (length xs) ≡ suc from + k = e in omega arith))

-- the bytes of the mask for a block, from its end on that stands at the index
mask_part : (from : ℕ) → from ≤ block_size → take (2 * block_size - from - (block_size - from)) (drop (block_size - from) mask_of) ≡ replicate from 0 ++ replicate (block_size - from) 255
unfolding mask_of
mask_part from h =
    let n : block_size - (block_size - from) ≡ from = omega arith in
    let k : 2 * block_size - from - (block_size - from) ≡ length (replicate {A = ℕ} from 0) + (block_size - from) = (let z = length-replicate {A = ℕ} from 0 in omega (arith, z)) in
    rw (
      drop-append-le {A = ℕ} (block_size - from) (replicate block_size 0) (replicate block_size 255) (omega arith),
      drop-replicate {X = ℕ} (block_size - from) block_size 0,
      n,
      k,
      take-append-add {A = ℕ} (replicate from 0) (replicate block_size 255) (block_size - from),
      take-replicate {X = ℕ} (block_size - from) block_size 255 (omega arith),
    ) refl

pub under_mask : (block mask bytes bits : List ℕ) (from : ℕ) → ((i : ℕ) → get_or block i 0 < 2 ^ 8) → (length block ≡ block_size) × (mask ≡ mask_of) × (from ≤ block_size)
    → bytes ≡ block → bits ≡ take (2 * block_size - from - (block_size - from)) (drop (block_size - from) mask)
    → true and all_zero (under bytes bits) ≡ all_zero (drop from block)
unfolding when◌then◌else◌
under_mask block mask bytes bits from fits h e f =
    let n : length block ≡ from + (block_size - from) = omega (arith, h) in
    rw (e, f, h.1, mask_part from h.2) (under_zeros block from (block_size - from) fits n)

-- From an index on a part is zero exactly if its block is, which begins at s, from there on, and all that lies behind the block.
module _ (part : List ℕ) (s j from : ℕ) (is : s + j ≡ from) (within : j ≤ block_size) (fits : s + block_size ≤ length part) where
  abbrev block : List ℕ
  block = take block_size (drop s part)

  in_block : all_zero (drop j block) and all_zero (drop (s + block_size) part) ≡ all_zero (drop from part)
  in_block =
      let size : length block ≡ block_size = length-take-le block_size (drop s part) (simp length-drop (omega arith)) in
      ap (λ (r : List ℕ). all_zero (drop j block) and all_zero r) (sym (drop-drop block_size s part))
      ∙ sym (zero_append (drop j block) (drop block_size (drop s part)))
      ∙ ap all_zero (sym (drop-append-le j block (drop block_size (drop s part)) (rw size within)))
      ∙ ap (λ (l : List ℕ). all_zero (drop j l)) (take-append-drop block_size (drop s part))
      ∙ ap all_zero (drop-drop j s part ∙ ap (λ (k : ℕ). drop k part) is)

  -- the block has a byte that counts and is not zero
  pub block_fails : (r : Bool) → r ≡ all_zero (drop j block) → r ≡ false → r ≡ all_zero (drop from part)
  block_fails r e f = f ∙ sym (first_fails (all_zero (drop j block)) (all_zero (drop (s + block_size) part)) (sym e ∙ f)) ∙ in_block

  -- it has none: what lies behind it decides
  pub block_passes : (r z : Bool) (k : ℕ) → r ≡ all_zero (drop j block) → r ≡ true → length part ≡ k
      → z ≡ all_zero (take (k - (s + block_size)) (drop (s + block_size) part)) → z ≡ all_zero (drop from part)
  block_passes r z k e y n f =
      f
      ∙ ap all_zero (take_all (k - (s + block_size)) (drop (s + block_size) part) (simp length-drop (omega arith)))
      ∙ when_true (all_zero (drop j block)) (all_zero (drop (s + block_size) part)) (all_zero (drop (s + block_size) part)) false (sym e ∙ y) refl
      ∙ in_block
