-- Survival at any making: where as many as have to confirm have all that is accepted, and at most r survivors are lost, the order ends behind every accepted
-- message. Assumes nothing.
use mathlib.Core.Path.{◌≡◌, refl, sym, ◌∙◌, subst}
use mathlib.Core.Logic.{◌≢◌}
use mathlib.Core.Bool.{Bool, true, false, false≢true}
use Prim.Native.Nat.{ℕ, zero, suc, ◌+◌, ◌^◌, ◌≤◌, ◌<◌}
use native.Mathlib.Nat.{le_refl, le_trans}
use native.Mathlib.Omega.{arith}
use borrow.Author.Tests.{leb-true}
use lib.Count.{ones}
use Rattle.group.proofs.Choice.{both_first, both_then}
use Rattle.group.proofs.Counting.{one, count, count_within, count_more, ones_count}
use Rattle.group.proofs.Members.{Standing, survivor_lt, survivors_lt, in_others, others_in}
use Rattle.group.specs.Choice.{when◌then◌else◌}
use Rattle.group.specs.Limits.{members_most}
use Rattle.group.specs.Members.{is_in, elected_of, others_of, needed_of}
use Rattle.group.specs.declared.Group.{Group}
use Rattle.sequencer.proofs.Invariant.{reaches}
use Rattle.reset.proofs.Needing.{count_less, needed_least}

-- two that exclude each other, within a third
count_both : (k : ℕ) (p q r : ℕ → Bool) → ((i : ℕ) → one (p i) + one (q i) ≤ one (r i)) → count k p + count k q ≤ count k r
unfolding count
count_both zero p q r h = le_refl 0
count_both (suc k) p q r h =
    let z = h 0 in
    let y = count_both k (λ i. p (suc i)) (λ i. q (suc i)) (λ i. r (suc i)) (λ i. h (suc i)) in
    omega arith

-- of the first and not of the second
abbrev but : Bool → Bool → Bool
but a b = when b then false else a

but_first : (a b : Bool) → but a b ≡ true → a ≡ true
unfolding when◌then◌else◌
but_first a true e = absurd (false≢true e)
but_first a false e = e

but_then : (a b : Bool) → a ≡ true → but a b ≡ false → b ≡ true
unfolding when◌then◌else◌
but_then a true x e = refl
but_then a false x e = absurd (false≢true (sym e ∙ x))

but_apart : (a b : Bool) → (b ≡ true → a ≡ true) → one (but a b) + one b ≤ one a
unfolding when◌then◌else◌ one
but_apart true true h = omega arith
but_apart true false h = omega arith
but_apart false true h = absurd (false≢true (h refl))
but_apart false false h = omega arith

module _ (group : Group) (standing : Standing group) (reach : ℕ → ℕ) (accepted top cut mask : ℕ) (accepted_le : accepted ≤ top) (enough : needed_of group ≤ count group.n (reaches group reach accepted))
    (small : mask < 2 ^ members_most) (within : (i : ℕ) → is_in mask i ≡ true → is_in group.survivors i ≡ true) (initiator : ℕ) (itself : is_in mask initiator ≡ true)
    (elected_replies : is_in mask (elected_of group).0 ≡ true → top ≤ cut) (others_reply : (i : ℕ) → is_in mask i ≡ true → i ≢ (elected_of group).0 → reach i ≤ cut)
    (few : ones group.survivors ≤ ones mask + group.resilience) where
  abbrev silent : ℕ → Bool
  silent i = but (is_in (others_of group) i) (is_in mask i)

  below : (i : ℕ) → is_in group.survivors i ≡ true → i < members_most
  below i e = let z = survivor_lt group standing i e in let y = standing.n_most in omega arith

  -- the elected one is lost
  module _ (out : is_in mask (elected_of group).0 ≡ false) where
    other : (i : ℕ) → is_in mask i ≡ true → i ≢ (elected_of group).0
    other i e q = false≢true (sym out ∙ subst (λ (k : ℕ). is_in mask k ≡ true) q e)

    few_silent : count members_most silent + 1 ≤ needed_of group
    few_silent =
        let e : ℕ = (elected_of group).0 in
        let a = count_both members_most silent (is_in mask) (is_in (others_of group)) (λ i. but_apart (is_in (others_of group) i) (is_in mask i) (λ h. in_others group standing i (within i h) (other i h))) in
        let b = count_less members_most e (is_in group.survivors) (is_in (others_of group)) (λ i h. (others_in group standing i h).0) standing.elected_in (λ h. (others_in group standing e h).1 refl) (below e standing.elected_in) in
        let c = ones_count members_most group.survivors (survivors_lt group standing) in
        let d = ones_count members_most mask small in
        let f = count_less members_most initiator (is_in mask) (λ _. false) (λ i h. absurd (false≢true h)) itself (λ h. false≢true h) (below initiator (within initiator itself)) in
        needed_least group standing (count members_most silent + 1) (omega arith) (omega arith)

    one_has : accepted ≤ cut
    one_has =
        let p = reaches group reach accepted in
        let a = count_within group.n members_most silent silent (λ i h. (below i (others_in group standing i (but_first (is_in (others_of group) i) (is_in mask i) h)).0, h)) in
        let b = few_silent in
        let x = count_more group.n p silent (omega arith) in
        let j = x.0 in
        let o = both_first (is_in (others_of group) j) _ x.2 in
        let far = leb-true accepted (reach j) (both_then (is_in (others_of group) j) _ x.2) in
        le_trans far (others_reply j (but_then (is_in (others_of group) j) (is_in mask j) o x.3) (others_in group standing j o).1)

  pub accepted_kept : accepted ≤ cut
  accepted_kept = go (is_in mask (elected_of group).0) refl
    where
      go : (x : Bool) → is_in mask (elected_of group).0 ≡ x → accepted ≤ cut
      go true e = le_trans accepted_le (elected_replies e)
      go false e = one_has e
