-- What each word tells, as a call puts it together.
-- Assumes nothing.
use mathlib.Core.Path.{◌≡◌, sym, ap}
use mathlib.Core.List.{List, [], ◌∷◌}
use Prim.Native.Nat.{ℕ}
use Rattle.group.specs.Wording.{Value, Wording}
use Rattle.embedding.specs.Codes.{code_of, numbers_in, numbers_of, answer_of}
use Rattle.embedding.specs.declared.Answer.{Answer}
use Rattle.embedding.proofs.Codes.{bytes_code, none_code, added_code, given_code}

abbrev answer : ℕ → ℕ → Answer
answer k n = record { code = k; number = n }

pub bytes_answer : (n : ℕ) (rest : List Value) → answer 58 n ≡ answer_of (Wording.word "bytes" (Value.number n ∷ rest))
unfolding answer_of code_of numbers_of numbers_in
bytes_answer n rest = ap (λ k. answer k n) (sym bytes_code)

pub given_answer : (n : ℕ) → answer 65 n ≡ answer_of (Wording.word "given" (Value.number n ∷ []))
unfolding answer_of code_of numbers_of numbers_in
given_answer n = ap (λ k. answer k n) (sym given_code)

pub added_answer : answer 64 0 ≡ answer_of (Wording.word "added" [])
unfolding answer_of code_of numbers_of numbers_in
added_answer = ap (λ k. answer k 0) (sym added_code)

pub none_answer : answer 54 0 ≡ answer_of (Wording.word "none" [])
unfolding answer_of code_of numbers_of numbers_in
none_answer = ap (λ k. answer k 0) (sym none_code)
