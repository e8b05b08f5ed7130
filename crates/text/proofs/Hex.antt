-- Bytes in hex, one byte at a time. Assumes nothing.
use mathlib.Core.Path.{◌≡◌, refl, sym}
use mathlib.Core.List.{List, [], ◌∷◌, ◌++◌}
use Prim.Native.Nat.{ℕ, ◌+◌, ◌<◌}
use native.Mathlib.Numerals.{add-one}
use lib.ListN.{length, get_or, take}
use lib.Seq.{take-suc}
use Rattle.group.proofs.Choice.{when_eq, when_ne}
use Rattle.text.specs.Text.{dash}
use Rattle.text.specs.Written.{hex_of, payload_text}

hex_append : (l r : List ℕ) → hex_of (l ++ r) ≡ hex_of l ++ hex_of r
unfolding hex_of
hex_append [] r = refl
hex_append (b ∷ l) r = rw (hex_append l r)

-- one byte more
pub hex_on : (l : List ℕ) (i : ℕ) → i < length l → hex_of (take (i + 1) l) ≡ hex_of (take i l) ++ hex_of (get_or l i 0 ∷ [])
hex_on l i h = rw (add-one i, take-suc l i 0 h) (hex_append (take i l) (get_or l i 0 ∷ []))

-- a payload: `-` if empty
module _ (payload : List ℕ) where
  pub payload_empty : length payload ≡ 0 → payload_text payload ≡ dash ∷ []
  unfolding payload_text
  payload_empty h = sym (when_eq (length payload) 0 (dash ∷ []) (dash ∷ []) (hex_of payload) h refl)

  pub payload_hex : (length payload ≡ 0 → ⊥) → payload_text payload ≡ hex_of payload
  unfolding payload_text
  payload_hex h = sym (when_ne (length payload) 0 (hex_of payload) (dash ∷ []) (hex_of payload) h refl)
