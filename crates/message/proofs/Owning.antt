-- A terminal's own messages in the order are its first submissions, and stay so when the order grows by one: as they were, or with
-- its next submission, where the message is its own. Assumes nothing.
use mathlib.Core.Path.{◌≡◌, refl, sym, ap, ◌∙◌}
use mathlib.Core.Logic.{◌≢◌}
use mathlib.Core.Bool.{Bool, true, false}
use mathlib.Core.Option.{some}
use mathlib.Core.List.{List, [], ◌∷◌, ◌++◌, append-nil}
use Prim.Native.Nat.{ℕ, zero, suc, ◌+◌, ◌≤◌}
use native.Mathlib.Omega.{arith}
use borrow.Author.Tests.{eq-eqb, ne_eqb}
use lib.ListN.{length, take, drop, get_elem?, length-append, length-take, take-append-drop}
use lib.Seq.{length-take-le, take-take}
use Rattle.group.proofs.Lists.{none≢some, at, get_lt, get_append, get_last, take_at_suc}
use Rattle.group.specs.Choice.{when◌then◌else◌, ◌=?◌}
use Rattle.message.specs.Order.{Ordered, Submission, own_of, counted_from}

-- terminal i's own messages in an order are its first submissions, as many as they are
abbrev pub Owns : ℕ → List Ordered → List (List ℕ) → Type 0
Owns i order submitted = own_of i order ≡ counted_from 1 (take (length (own_of i order)) submitted)

-- a message's count and payload
abbrev submission_of : Ordered → Submission
submission_of m = record { count = m.count; payload = m.payload }

when_append : (t : Bool) (m : Submission) (l r : List Submission) → (when t then m ∷ (l ++ r) else (l ++ r)) ≡ (when t then m ∷ l else l) ++ r
unfolding when◌then◌else◌
when_append true m l r = refl
when_append false m l r = refl

own_append : (i : ℕ) (l r : List Ordered) → own_of i (l ++ r) ≡ own_of i l ++ own_of i r
unfolding own_of
own_append i [] r = refl
own_append i (m ∷ l) r = rw (own_append i l r) (when_append (m.originator =? i) (submission_of m) (own_of i l) (own_of i r))

pub own_grows : (i : ℕ) (l r : List Ordered) → length (own_of i l) ≤ length (own_of i (l ++ r))
own_grows i l r = rw (own_append i l r) (simp length-append (omega arith))

own_same : (l : List Ordered) (m : Ordered) → own_of m.originator (l ++ (m ∷ [])) ≡ own_of m.originator l ++ (submission_of m ∷ [])
unfolding own_of when◌then◌else◌
own_same l m = own_append m.originator l (m ∷ []) ∙ rw (eq-eqb m.originator m.originator refl)

pub own_more : (l : List Ordered) (m : Ordered) → length (own_of m.originator (l ++ (m ∷ []))) ≡ length (own_of m.originator l) + 1
own_more l m = ap length (own_same l m) ∙ length-append (own_of m.originator l) (submission_of m ∷ [])

pub own_other : (i : ℕ) (l : List Ordered) (m : Ordered) → m.originator ≢ i → own_of i (l ++ (m ∷ [])) ≡ own_of i l
unfolding own_of when◌then◌else◌
own_other i l m e = own_append i l (m ∷ []) ∙ rw (ne_eqb m.originator i e) (append-nil (own_of i l))

pub counted_length : (count : ℕ) (l : List (List ℕ)) → length (counted_from count l) ≡ length l
unfolding counted_from
counted_length count [] = refl
counted_length count (x ∷ l) = ap suc (counted_length (count + 1) l)

counted_append : (count : ℕ) (l : List (List ℕ)) (payload : List ℕ)
    → counted_from count (l ++ (payload ∷ [])) ≡ counted_from count l ++ (record { count = count + length l; payload = payload } ∷ [])
unfolding counted_from
counted_append count [] payload = let e : count ≡ count + 0 = omega arith in ap {B = List Submission} (λ (c : ℕ). record { count = c; payload = payload } ∷ []) e
counted_append count (x ∷ l) payload =
    let e : count + 1 + length l ≡ count + suc (length l) = omega arith in
    ap (λ (r : List Submission). record { count = count; payload = x } ∷ r)
    (counted_append (count + 1) l payload ∙ ap (λ (c : ℕ). counted_from (count + 1) l ++ (record { count = c; payload = payload } ∷ [])) e)

-- they are no more than the submissions
pub own_most : (i : ℕ) (order : List Ordered) (submitted : List (List ℕ)) → Owns i order submitted → length (own_of i order) ≤ length submitted
own_most i order submitted own =
    let e : length (own_of i order) ≡ length (take (length (own_of i order)) submitted) = ap length own ∙ counted_length 1 (take (length (own_of i order)) submitted) in
    let z = simp length-take at e in
    omega arith

-- they are among the first k submissions exactly if they are no more
pub owns_take : (i k : ℕ) (order : List Ordered) (submitted : List (List ℕ)) → length (own_of i order) ≤ k → Owns i order submitted → Owns i order (take k submitted)
owns_take i k order submitted h own = own ∙ ap (counted_from 1) (sym (take-take (length (own_of i order)) k submitted h))

pub owns_taken : (i k : ℕ) (order : List Ordered) (submitted : List (List ℕ)) → Owns i order (take k submitted) → (length (own_of i order) ≤ k) × Owns i order submitted
owns_taken i k order submitted own =
    let z = simp length-take at (own_most i order (take k submitted) own) in
    let h : length (own_of i order) ≤ k = omega arith in
    (h, own ∙ ap (counted_from 1) (take-take (length (own_of i order)) k submitted h))

-- the count of each of them is its place
counted_at : (count : ℕ) (l : List (List ℕ)) (j : ℕ) {x : Submission} → get_elem? (counted_from count l) j ≡ some x → x.count ≡ count + j
unfolding counted_from
counted_at count [] j e = absurd (none≢some e)
counted_at count (y ∷ l) zero {x} e =
    let z : record { count = count; payload = y } ≡ x = cc in
    let q : count ≡ x.count = ap (λ (s : Submission). s.count) z in
    omega arith
counted_at count (y ∷ l) (suc j) e = let z = counted_at (count + 1) l j e in omega arith

-- so a message of the order has the count after its originator's messages below it, and these are no more than they all are
pub own_count : (order : List Ordered) (submitted : List (List ℕ)) (t : ℕ) (m : Ordered) → at order (suc t) ≡ some m → Owns m.originator order submitted
    → (m.count ≡ length (own_of m.originator (take t order)) + 1) × (length (own_of m.originator (take t order)) + 1 ≤ length (own_of m.originator order))
own_count order submitted t m e own =
    let i : ℕ = m.originator in
    let q : ℕ = length (own_of i (take t order)) in
    let p : ℕ = length (own_of i order) in
    let cut : order ≡ (take t order ++ (m ∷ [])) ++ drop (suc t) order =
    sym (take-append-drop (suc t) order) ∙ ap (λ (l : List Ordered). l ++ drop (suc t) order) (take_at_suc order t e) in
    let all : own_of i order ≡ (own_of i (take t order) ++ (submission_of m ∷ [])) ++ own_of i (drop (suc t) order) =
    ap (own_of i) cut ∙ own_append i (take t order ++ (m ∷ [])) (drop (suc t) order)
    ∙ ap (λ (l : List Submission). l ++ own_of i (drop (suc t) order)) (own_same (take t order) m) in
    let here : get_elem? (own_of i order) q ≡ some (submission_of m) =
    ap (λ (l : List Submission). get_elem? l q) all
    ∙ get_append (own_of i (take t order) ++ (submission_of m ∷ [])) (own_of i (drop (suc t) order)) q (get_last (own_of i (take t order)) (submission_of m)) in
    let c = counted_at 1 (take p submitted) q (ap (λ (l : List Submission). get_elem? l q) (sym own) ∙ here) in
    let lt = get_lt (own_of i order) q here in
    (omega arith, omega arith)

-- the order grows by a message of another, or by the submission with the count after them
pub own_still : (i : ℕ) (order : List Ordered) (submitted : List (List ℕ)) (m : Ordered) → m.originator ≢ i → Owns i order submitted → Owns i (order ++ (m ∷ [])) submitted
own_still i order submitted m e own = rw (own_other i order m e) own

pub own_next : (order : List Ordered) (submitted : List (List ℕ)) (m : Ordered) → m.count ≡ length (own_of m.originator order) + 1
    → at submitted m.count ≡ some m.payload → Owns m.originator order submitted → Owns m.originator (order ++ (m ∷ [])) submitted
own_next order submitted m next e own =
    let p : ℕ = length (own_of m.originator order) in
    let c : m.count ≡ suc p = omega arith in
    let e' : at submitted (suc p) ≡ some m.payload = ap (at submitted) (sym c) ∙ e in
    let h : p ≤ length submitted = own_most m.originator order submitted own in
    let l : 1 + length (take p submitted) ≡ m.count = (let z = length-take-le p submitted h in omega arith) in
    let more : suc p ≡ length (own_of m.originator (order ++ (m ∷ []))) = (let z = own_more order m in omega arith) in
    own_same order m
    ∙ ap (λ (r : List Submission). r ++ (submission_of m ∷ [])) own
    ∙ ap (λ (k : ℕ). counted_from 1 (take p submitted) ++ (record { count = k; payload = m.payload } ∷ [])) (sym l)
    ∙ sym (counted_append 1 (take p submitted) m.payload)
    ∙ ap (counted_from 1) (sym (take_at_suc submitted p e'))
    ∙ ap (λ (k : ℕ). counted_from 1 (take k submitted)) more
