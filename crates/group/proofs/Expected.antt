-- The expected are members 1 to r: their mask is that of all others in a group of r + 1, by computation for each n and r. Assumes nothing.
use mathlib.Core.Path.{◌≡◌, refl, sym, ◌∙◌}
use mathlib.Core.Bool.{Bool, true, false}
use Prim.Native.Nat.{ℕ, suc, ◌+◌, ◌-◌, ◌*◌, ◌/◌, ◌%◌, ◌^◌, ◌≤◌, ◌<◌}
use native.Mathlib.Nat.{pow-suc}
use native.Mathlib.Numerals.{add-one}
use native.Mathlib.Omega.{arith}
use borrow.Author.Tests.{eqb-true, leb-true, le-leb}
use lib.Count.{count_trailing_zeros, ones, ones_step, ones-ones}
use lib.Pow.{pow_pos}
use Rattle.group.specs.Choice.{when◌then◌else◌, ◌and◌, ◌≤?◌, ◌=?◌}
use Rattle.group.specs.Fold.{all_above}
use Rattle.group.specs.Laws.{ExpectedAre, NeededAre}
use Rattle.group.specs.Limits.{members_most}
use Rattle.group.specs.Members.{is_in, lowest_of, others_of, expected_of, needed_of}
use Rattle.group.specs.Opening.{description_of}
use Rattle.group.specs.declared.Group.{Group}
use Rattle.group.proofs.Choice.{when_true, both_hold, both_first, both_then}
use Rattle.group.proofs.Fold.{above_each}
use Rattle.group.proofs.Members.{in_all, all_in, Standing, fresh_standing, in_others, others_in}

-- of n members, where r is k - 1: it is not below n, or the r lowest others are all others of r + 1 members
unfoldable lowest_are : ℕ → ℕ → Bool
unfolding when◌then◌else◌ lowest_of count_trailing_zeros
lowest_are n k = when k ≤? n then lowest_of (k - 1) (2 ^ n - 1 - 1) =? 2 ^ k - 1 - 1 else true

abbrev all_are : ℕ → Bool
all_are n = all_above (lowest_are n) 0 members_most

computed : all_above all_are 0 members_most ≡ true
unfolding lowest_are all_above
computed = refl

lowest_are_lem : (n r : ℕ) → n ≤ members_most → r < n → lowest_of r (2 ^ n - 1 - 1) ≡ 2 ^ (r + 1) - 1 - 1
unfolding lowest_are
lowest_are_lem n r most less =
    let e = above_each (lowest_are n) 0 members_most (above_each all_are 0 members_most computed n (omega arith) most) (r + 1) (omega arith) (omega arith) in
    let k : r + 1 - 1 ≡ r = omega arith in
    rw k at (eqb-true (lowest_of (r + 1 - 1) (2 ^ n - 1 - 1)) _ (when_true (r + 1 ≤? n) _ _ _ (le-leb (r + 1) n (omega arith)) refl ∙ e))

-- two tests that say the same
same_test : (a b : Bool) → (a ≡ true → b ≡ true) → (b ≡ true → a ≡ true) → a ≡ b
same_test true b f g = sym (f refl)
same_test false true f g = g refl
same_test false false f g = refl

pub expected_are : ExpectedAre
unfolding expected_of others_of
expected_are n number r most less i =
    let small : Group = description_of (r + 1) number 0 in
    let stands : Standing small = fresh_standing (r + 1) number 0 (omega arith) (omega arith) (omega arith) in
    let e : expected_of (description_of n number r) ≡ others_of small = lowest_are_lem n r most less in
    same_test (is_in (expected_of (description_of n number r)) i) (1 ≤? i and i ≤? r)
    (λ h.
    let z = others_in small stands i (rw e at h) in
    let y = all_in (r + 1) i z.0 in
    both_hold _ _ (le-leb 1 i (let q = z.1 in omega arith)) (le-leb i r (omega arith)))
    (λ h.
    let a = leb-true 1 i (both_first (1 ≤? i) _ h) in
    let b = leb-true i r (both_then (1 ≤? i) _ h) in
    rw e (in_others small stands i (in_all (r + 1) i (omega arith)) (λ q. omega arith)))

-- their ones are r: twice the mask of r members
pub needed_are : NeededAre
unfolding needed_of expected_of others_of
needed_are n number r most less =
    let y : 2 ^ suc r ≡ 2 ^ r * 2 = pow-suc 2 r in
    let p = pow_pos r in
    let e : lowest_of r (2 ^ n - 1 - 1) ≡ 2 ^ (r + 1) - 1 - 1 = lowest_are_lem n r most less in
    let s : r + 1 ≡ suc r = add-one r in
    let m = 2 ^ suc r - 1 - 1 in
    let half : m / 2 ≡ 2 ^ r - 1 = omega arith in
    let even : m % 2 ≡ 0 = omega arith in
    let a = ones_step m in
    let b : ones (m / 2) ≡ r = rw half (ones-ones r) in
    let c : ones m ≡ r = omega arith in
    rw (e, s) c
