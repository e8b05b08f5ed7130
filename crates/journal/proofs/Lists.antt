-- Numbers that stand in a list of bytes, parts of a list, and lists of zeros. Assumes nothing.
use mathlib.Core.Path.{◌≡◌, refl, sym, ap, ◌∙◌}
use mathlib.Core.Bool.{Bool, true, false, ◌&&◌}
use mathlib.Core.List.{List, [], ◌∷◌, ◌++◌}
use Prim.Native.Nat.{ℕ, zero, suc, ◌+◌, ◌-◌, ◌^◌, ◌≤◌, ◌<◌}
use native.Mathlib.Nat.{sub-zero, zero-sub, suc-sub-suc}
use native.Mathlib.Omega.{arith}
use borrow.Author.Tests.{eq-eqb, ne_eqb}
use lib.Dec.{eqb}
use lib.Pointwise.{pointwise}
use lib.ListN.{length, get_or, take, drop, replicate}
use lib.Seq.{drop-cons, drop-drop, drop_at, take-nil}
use Rattle.group.specs.Choice.{when◌then◌else◌, ◌and◌, ◌=?◌}
use Rattle.group.specs.Fold.{all}
use Rattle.group.proofs.Choice.{both_hold}
use Rattle.group.proofs.Lists.{eq_or}
use Rattle.message.specs.Message.{all_zero}
use Rattle.big_endian.specs.Laws.{Bytes}
use Rattle.big_endian.specs.Number.{number_at, bytes_of}
use Rattle.big_endian.proofs.Number.{number_of_bytes, number_behind, bytes_cons}

-- a number whose bytes stand i behind an index
pub number_in : (k v : ℕ) (block front rest : List ℕ) (at i : ℕ) → drop at block ≡ front ++ (bytes_of k v ++ rest) → length front ≡ i
    → v < 256 ^ k → number_at k block (at + i) ≡ v
number_in k v block front rest at i d n h =
    number_behind k block (at + i)
    ∙ ap (λ (l : List ℕ). number_at k l 0) (sym (drop-drop i at block) ∙ ap (drop i) d ∙ drop_at front (bytes_of k v ++ rest) i n)
    ∙ number_of_bytes k v rest h

-- what stands behind an index in the first n
pub drop_take : {A : Type 0} (i n : ℕ) (l : List A) → drop i (take n l) ≡ take (n - i) (drop i l)
drop_take zero n l = rw sub-zero
drop_take (suc i) zero l = rw zero-sub
drop_take (suc i) (suc n) [] = sym (take-nil (suc n - suc i))
drop_take (suc i) (suc n) (x ∷ l) = rw suc-sub-suc (drop_take i n l)

pub zeros_bytes : (k : ℕ) → Bytes (replicate k 0)
unfolding Bytes
zeros_bytes zero = λ i h. absurd (omega arith)
zeros_bytes (suc k) = bytes_cons 0 (replicate k 0) (omega arith) (zeros_bytes k)

-- a byte of which each counts, as the loop over zeros sees it
pub zero_byte : (b i : ℕ) → (b =? 0) ≡ when b =? 0 then true else (i + 1 - 0 =? 0)
unfolding when◌then◌else◌
zero_byte b i = go (b =? 0)
  where
    go : (t : Bool) → t ≡ when t then true else (i + 1 - 0 =? 0)
    go true = refl
    go false = sym (ne_eqb (i + 1 - 0) 0 (λ z. omega arith))

-- bytes that begin a list, compared one by one
eqb_flip : (a b : ℕ) → eqb a b ≡ eqb b a
eqb_flip a b = eq_or a b (λ e. eq-eqb a b e ∙ sym (eq-eqb b a (sym e))) (λ n. ne_eqb a b n ∙ sym (ne_eqb b a (λ e. n (sym e))))

also_and : (s t : Bool) → (s && t) ≡ s and t
unfolding when◌then◌else◌
also_and true t = refl
also_and false t = refl

pub begins_all : (bytes block : List ℕ) (i : ℕ) → i + length bytes ≤ length block
    → pointwise eqb bytes (take (length bytes) (drop i block)) ≡ all (λ j b. get_or block j 0 =? b) i bytes
unfolding all
begins_all [] block i h = refl
begins_all (b ∷ rest) block i h =
    let x = get_or block i 0 in
    let e : suc i ≡ i + 1 = omega arith in
    ap (λ (l : List ℕ). pointwise eqb (b ∷ rest) (take (suc (length rest)) l)) (drop-cons block i 0 (omega arith))
    ∙ also_and (eqb b x) (pointwise eqb rest (take (length rest) (drop (suc i) block)))
    ∙ ap (λ (t : Bool). t and pointwise eqb rest (take (length rest) (drop (suc i) block))) (eqb_flip b x)
    ∙ ap (λ (j : ℕ). (x =? b) and pointwise eqb rest (take (length rest) (drop j block))) e
    ∙ ap (λ (t : Bool). (x =? b) and t) (begins_all rest block (i + 1) (omega arith))
