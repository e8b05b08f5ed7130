-- Fields without a space are read back from a line, and lines without a line feed from a text, character by character; digits
-- are such characters. Assumes nothing.
use mathlib.Core.Path.{◌≡◌, refl, sym, ap, ◌∙◌}
use mathlib.Core.List.{List, [], ◌∷◌, ◌++◌, append-nil, append_assoc}
use Prim.Native.Nat.{ℕ, zero, suc, ◌+◌, ◌*◌, ◌/◌, ◌%◌, ◌≤◌, ◌<◌}
use native.Mathlib.Omega.{arith}
use lib.ListN.{length, length-append}
use Rattle.group.specs.Choice.{when◌then◌else◌, ◌<?◌, ◌=?◌}
use Rattle.group.specs.Limits.{largest_number}
use Rattle.group.proofs.Choice.{when_eq, when_ne}
use Rattle.group.proofs.Lists.{when_elim}
use Rattle.text.specs.Field.{before, lines_of, fields_of}
use Rattle.text.specs.Text.{space, line_feed, glyph_of}
use Rattle.text.specs.Written.{decimal_digits, decimal_of, hex_of, payload_text, spaced, line, number_digits}
use Rattle.text.proofs.Decimal.{decimal_most}
use Rattle.text.proofs.Hex.{payload_hex}
use Rattle.workload.specs.Laws.{Above, Solid, joined, FieldsBack}

above_append : (mark : ℕ) (l r : List ℕ) → Above mark l → Above mark r → Above mark (l ++ r)
above_append mark [] r h k = k
above_append mark (c ∷ l) r h k = (h.0, above_append mark l r h.1 k)

-- the parts of a text that a character ends: for the fields of a line and for the lines of a text
module _ (mark : ℕ) (parts : List ℕ → List (List ℕ)) (goes : (c : ℕ) (l : List ℕ) → parts (c ∷ l) ≡ when c =? mark then [] ∷ parts l else before c (parts l)) where
  -- past a character that is above it
  part_on : (c : ℕ) (l : List ℕ) → mark < c → parts (c ∷ l) ≡ before c (parts l)
  part_on c l h = goes c l ∙ sym (when_ne c mark (before c (parts l)) ([] ∷ parts l) (before c (parts l)) (λ e. omega arith) refl)

  part_then : (l r : List ℕ) → Above mark l → parts (l ++ (mark ∷ r)) ≡ l ∷ parts r
  unfolding before
  part_then [] r h = goes mark r ∙ sym (when_eq mark mark ([] ∷ parts r) ([] ∷ parts r) (before mark (parts r)) refl refl)
  part_then (c ∷ l) r h = part_on c (l ++ (mark ∷ r)) h.0 ∙ ap (before c) (part_then l r h.1)

  part_last : (l : List ℕ) → parts [] ≡ [] ∷ [] → Above mark l → parts l ≡ l ∷ []
  unfolding before
  part_last [] e h = e
  part_last (c ∷ l) e h = part_on c l h.0 ∙ ap (before c) (part_last l e h.1)

pub fields_back : FieldsBack
unfolding joined spaced fields_of
fields_back first [] h = rw append-nil (part_last space fields_of (λ c l. refl) first refl h.0)
fields_back first (field ∷ rest) h =
    part_then space fields_of (λ c l. refl) first (field ++ spaced rest) h.0
    ∙ ap (λ (l : List (List ℕ)). first ∷ l) (fields_back field rest h.1)

-- what lies above a space lies above a line feed, and so does a space
lower : (l : List ℕ) → Above space l → Above line_feed l
lower [] h = tt
lower (c ∷ l) h = let k = h.0 in (omega arith, lower l h.1)

spaced_above : (fields : List (List ℕ)) → Solid fields → Above line_feed (spaced fields)
unfolding spaced
spaced_above [] h = tt
spaced_above (field ∷ rest) h = (omega arith, above_append line_feed field (spaced rest) (lower field h.0) (spaced_above rest h.1))

-- a line, and the text behind it
pub line_then : (fields : List (List ℕ)) (behind : List ℕ) → Solid fields → lines_of (line fields ++ behind) ≡ joined fields ∷ lines_of behind
unfolding joined lines_of
line_then [] behind h = part_then line_feed lines_of (λ c l. refl) [] behind tt
line_then (first ∷ rest) behind h =
    let e : line (first ∷ rest) ++ behind ≡ (first ++ spaced rest) ++ (line_feed ∷ behind) = simp append_assoc in
    rw e
    (part_then line_feed lines_of (λ c l. refl) (first ++ spaced rest) behind
    (above_append line_feed first (spaced rest) (lower first h.0) (spaced_above rest h.1)))

-- digits are no spaces
glyph_above : (d : ℕ) → space < glyph_of d
unfolding glyph_of
glyph_above d = when_elim (λ (c : ℕ). space < c) (d <? 10) (λ t. omega arith) (λ t. omega arith)

digits_above : (most n : ℕ) → Above space (decimal_digits most n)
unfolding decimal_digits
digits_above zero n = tt
digits_above (suc most) n =
    when_elim (Above space) (n =? 0) (λ t. tt)
    (λ t. above_append space (decimal_digits most (n / 10)) (glyph_of (n % 10) ∷ []) (digits_above most (n / 10)) (glyph_above (n % 10), tt))

decimal_above : (n : ℕ) → Above space (decimal_of n)
unfolding decimal_of
decimal_above n = when_elim (Above space) (n =? 0) (λ t. (glyph_above 0, tt)) (λ t. digits_above n n)

-- a field as a load has it: without a space, and of ten characters at the most
abbrev pub Plain : List ℕ → Type 0
Plain field = Above space field × (length field ≤ number_digits)

abbrev pub AllPlain : List (List ℕ) → Type 0
AllPlain [] = Unit {0}
AllPlain (field ∷ rest) = Plain field × AllPlain rest

pub decimal_plain : (n : ℕ) → n ≤ largest_number → Plain (decimal_of n)
decimal_plain n h = (decimal_above n, decimal_most 10 n (omega arith) (omega arith))

pub byte_plain : (byte : ℕ) → Plain (payload_text (byte ∷ []))
unfolding hex_of
byte_plain byte = rw (payload_hex (byte ∷ []) (λ e. omega arith)) ((glyph_above (byte / 16), (glyph_above (byte % 16), tt)), omega arith)

pub all_solid : (fields : List (List ℕ)) → AllPlain fields → Solid fields
all_solid [] h = tt
all_solid (field ∷ rest) h = (h.0.0, all_solid rest h.1)

spaced_most : (fields : List (List ℕ)) → AllPlain fields → length (spaced fields) ≤ (1 + number_digits) * length fields
unfolding spaced
spaced_most [] h = omega arith
spaced_most (field ∷ rest) h =
    let k = spaced_most rest h.1 in
    let l = h.0.1 in
    let e = length-append field (spaced rest) in
    omega arith

-- so a line of a few fields is short
pub joined_most : (first : List ℕ) (rest : List (List ℕ)) → AllPlain (first ∷ rest) → length (joined (first ∷ rest)) ≤ number_digits + (1 + number_digits) * length rest
unfolding joined
joined_most first rest h =
    let k = spaced_most rest h.1 in
    let l = h.0.1 in
    let e = length-append first (spaced rest) in
    omega arith
