-- The place of the first record of a kind: it is what a search along the list finds, what stands there, and what stands before it.
-- Zeros, as such a search says them. Assumes nothing.
use Rattle.std.proofs.Common.{◌≡◌, refl, sym, ap, ◌∙◌, subst, Bool, true, false, cond, not, ◌&&◌, nat_eq, nat_lt, eqb, List, [], ◌∷◌, ℕ, zero, suc, ◌+◌, ◌≤◌, ◌<◌, length, get_or, Option, Some, None, IfSome, IsNone, position, arith}
use native.Mathlib.Nat.{not-suc-le-zero, le_of_suc-le-suc}
use borrow.Author.Tests.{ltb-true, ltb-false, ne_eqb}
use Rattle.std.specs.List.{list_all, position_or_len}
use Rattle.std.specs.Option.{option_eq}
use Rattle.group.specs.Choice.{when◌then◌else◌, ◌and◌}
use Rattle.group.proofs.Lists.{when_elim}
use Rattle.message.specs.Message.{all_zero}
use Rattle.jobs.specs.Job.{is_of, place_of}
use Rattle.jobs.specs.declared.Job.{Job}

true≢false : true ≡ false → ⊥
true≢false e = let z : ◌≡◌ {A = ℕ} 0 1 = cc in omega arith

-- a record is read within a list as it is, whatever is read past its end
pub read_any : (jobs : List Job) (i : ℕ) (d e : Job) → i < length jobs → get_or jobs i d ≡ get_or jobs i e
read_any [] i d e h = absurd (not-suc-le-zero h)
read_any (x ∷ jobs) zero d e h = refl
read_any (x ∷ jobs) (suc i) d e h = read_any jobs i d e (le_of_suc-le-suc h)

module _ (state member : ℕ) where
  -- a search along the list finds that place, and there is none where it is the list's length
  passed : (t : Bool) (a b : ℕ) → a ≡ b → cond (not t) (1 + a) 0 ≡ when t then 0 else suc b
  unfolding when◌then◌else◌
  passed true a b e = refl
  passed false a b e = omega (arith, e)

  pub place_is : (jobs : List Job) → position_or_len (is_of state member) jobs ≡ place_of state member jobs
  unfolding place_of
  place_is [] = refl
  place_is (job ∷ rest) = passed (is_of state member job) _ _ (place_is rest)

  pub position_place : (jobs : List Job) → position (is_of state member) jobs ≡ cond (nat_lt (place_of state member jobs) (length jobs)) (Some (place_of state member jobs)) None
  position_place jobs = ap (λ (k : ℕ). cond (nat_lt k (length jobs)) (Some k) None) (place_is jobs)

  pub place_most : (jobs : List Job) → place_of state member jobs ≤ length jobs
  unfolding place_of
  place_most [] = omega arith
  place_most (job ∷ rest) = let h = place_most rest in when_elim (λ (k : ℕ). k ≤ suc (length rest)) (is_of state member job) (λ t. omega arith) (λ f. omega (arith, h))

  -- the record that stands there has that state and member
  pub place_has : (d : Job) (jobs : List Job) → place_of state member jobs < length jobs → is_of state member (get_or jobs (place_of state member jobs) d) ≡ true
  unfolding place_of
  place_has d [] h = absurd (not-suc-le-zero h)
  place_has d (job ∷ rest) h =
      when_elim (λ (k : ℕ). k < suc (length rest) → is_of state member (get_or (job ∷ rest) k d) ≡ true) (is_of state member job) (λ t g. t)
      (λ f g. place_has d rest (le_of_suc-le-suc g)) h

  -- and one with them stands there or behind
  pub place_least : (d : Job) (jobs : List Job) (i : ℕ) → i < length jobs → is_of state member (get_or jobs i d) ≡ true → place_of state member jobs ≤ i
  unfolding place_of
  place_least d [] i h e = absurd (not-suc-le-zero h)
  place_least d (job ∷ rest) zero h e = when_elim (λ (k : ℕ). k ≤ 0) (is_of state member job) (λ t. omega arith) (λ f. absurd (true≢false (sym e ∙ f)))
  place_least d (job ∷ rest) (suc i) h e =
      when_elim (λ (k : ℕ). k ≤ suc i) (is_of state member job) (λ t. omega arith)
      (λ f. let z = place_least d rest i (le_of_suc-le-suc h) e in omega arith)

-- what a search along the list finds, by the place and the list's length
found : (t : Bool) (k n : ℕ) → nat_lt k n ≡ t → IfSome (cond t (Some k) None) (λ place. (place ≡ k) × (place < n))
found true k n h = (refl, ltb-true k n h)
found false k n h = tt

pub found_some : (r : Option ℕ) (k n : ℕ) → r ≡ cond (nat_lt k n) (Some k) None → IfSome r (λ place. (place ≡ k) × (place < n))
found_some r k n e = subst (λ (o : Option ℕ). IfSome o (λ place. (place ≡ k) × (place < n))) (sym e) (found (nat_lt k n) k n refl)

missed : (t : Bool) (k n : ℕ) → nat_lt k n ≡ t → k ≤ n → IsNone (cond t (Some k) None) → k ≡ n
missed true k n h l z = absurd (true≢false z)
missed false k n h l z = let b = ltb-false k n h in omega (arith, b, l)

pub found_none : (r : Option ℕ) (k n : ℕ) → r ≡ cond (nat_lt k n) (Some k) None → k ≤ n → IsNone r → k ≡ n
found_none r k n e l z = missed (nat_lt k n) k n refl l (subst (λ (o : Option ℕ). IsNone o) e z)

pub found_eq : (r : Option ℕ) (k n place : ℕ) → IfSome r (λ p. (p ≡ k) × (p < n)) → (IsNone r → k ≡ n) → place < n
    → option_eq eqb r (Some place) ≡ eqb k place
found_eq (Some p) k n place some none h = ap (λ (i : ℕ). eqb i place) some.0
found_eq None k n place some none h = let e = none refl in sym (ne_eqb k place (λ z. omega (arith, z, e, h)))

-- every byte is zero, as a search along the bytes says it
both : (s t u : Bool) → t ≡ u → (s && t) ≡ s and u
unfolding when◌then◌else◌
both true t u e = e
both false t u e = refl

pub zeros : (bytes : List ℕ) → list_all (λ byte. nat_eq byte 0) bytes ≡ all_zero bytes
unfolding all_zero
zeros [] = refl
zeros (b ∷ rest) = both (nat_eq b 0) _ _ (zeros rest)
