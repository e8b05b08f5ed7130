-- What reading a journal, a block and a record tells, as a call puts it together.
-- Assumes nothing.
use mathlib.Core.Path.{◌≡◌, sym, ap}
use mathlib.Core.List.{[], ◌∷◌}
use Prim.Native.Nat.{ℕ}
use Rattle.group.specs.Wording.{Value, Wording}
use Rattle.embedding.specs.Codes.{code_of, numbers_in, numbers_of}
use Rattle.embedding.specs.Journals.{found_of, record_of}
use Rattle.embedding.specs.declared.Found.{Found}
use Rattle.embedding.specs.declared.Record.{Record}
use Rattle.embedding.proofs.Codes.{read_code_lem, right_code, wrong_code}

abbrev found : ℕ → ℕ → ℕ → Found
found k b m = record { code = k; blocks = b; messages = m }

pub read_found : (b m : ℕ) → found 60 b m ≡ found_of (Wording.word "read" (Value.number b ∷ Value.number m ∷ []))
unfolding found_of code_of numbers_of numbers_in
read_found b m = ap (λ k. found k b m) (sym read_code_lem)

pub right_found : (b m : ℕ) → found 61 b m ≡ found_of (Wording.word "right" (Value.number b ∷ Value.number m ∷ []))
unfolding found_of code_of numbers_of numbers_in
right_found b m = ap (λ k. found k b m) (sym right_code)

pub wrong_found : found 62 0 0 ≡ found_of (Wording.word "wrong" [])
unfolding found_of code_of numbers_of numbers_in
wrong_found = ap (λ k. found k 0 0) (sym wrong_code)

abbrev entry : ℕ → ℕ → ℕ → ℕ → ℕ → ℕ → Record
entry k n o c s l = record { code = k; number = n; originator = o; count = c; start = s; length = l }

pub right_entry : (n o c s l : ℕ)
    → entry 61 n o c s l ≡ record_of (Wording.word "right" (Value.number n ∷ Value.number o ∷ Value.number c ∷ Value.number s ∷ Value.number l ∷ []))
unfolding record_of code_of numbers_of numbers_in
right_entry n o c s l = ap (λ k. entry k n o c s l) (sym right_code)

pub wrong_entry : entry 62 0 0 0 0 0 ≡ record_of (Wording.word "wrong" [])
unfolding record_of code_of numbers_of numbers_in
wrong_entry = ap (λ k. entry k 0 0 0 0 0) (sym wrong_code)
