-- A text behind what is shown, as much of it as has room. Assumes nothing.
use mathlib.Core.Path.{◌≡◌, refl, sym, ap, ◌∙◌, subst}
use mathlib.Core.List.{List, [], ◌++◌, append-nil}
use Prim.Native.Nat.{ℕ, ◌+◌, ◌-◌, ◌≤◌, min}
use native.Mathlib.Omega.{arith}
use borrow.Author.Tests.{ltb-true, ltb-false}
use lib.ListN.{length, take, drop, length-append, length-drop}
use lib.Seq.{length-take-le, take_all, take-nil, take-take, take-append-le, take-append-add}
use Rattle.group.proofs.Lists.{when_elim, le_or}
use Rattle.group.specs.Choice.{when◌then◌else◌, ◌<?◌}
use Rattle.group.specs.Lent.{front}
use Rattle.packet.proofs.Parts.{behind}
use Rattle.player.proofs.Keeping.{smaller_fits}
use Rattle.playback.specs.Shown.{shown_of, Shows}

-- the smaller of two numbers, by its test
pub smaller_min : (a b : ℕ) → min a b ≡ (when a <? b then a else b)
smaller_min a b =
    when_elim (λ (x : ℕ). min a b ≡ x) (a <? b)
    (λ t. let z = ltb-true a b t in omega arith)
    (λ t. let z = ltb-false a b t in omega arith)

shown_more : (printed text : List ℕ) (room : ℕ) → shown_of (printed ++ text) room ≡ shown_of printed room ++ take (room - length (shown_of printed room)) text
shown_more printed text room =
    le_or (length printed) room
    (λ h.
    let e = take_all room printed h in
    let s : room ≡ length printed + (room - length printed) = omega arith in
    ap (λ (k : ℕ). take k (printed ++ text)) s ∙ take-append-add printed text (room - length printed)
    ∙ ap (λ (l : List ℕ). l ++ take (room - length l) text) (sym e))
    (λ h.
    let n = length-take-le room printed (omega arith) in
    let z : room - length (take room printed) ≡ 0 = omega arith in
    take-append-le room printed text (omega arith) ∙ sym (append-nil (take room printed))
    ∙ ap (λ (k : ℕ). take room printed ++ take k text) (sym z))

cut : (text : List ℕ) (size room : ℕ) → size ≤ length text → take (when size <? room then size else room) text ≡ take room (take size text)
cut text size room h =
    let n = length-take-le size text h in
    when_elim (λ (x : ℕ). take x text ≡ take room (take size text)) (size <? room)
    (λ t. let z = ltb-true size room t in sym (take_all room (take size text) (omega arith)))
    (λ t. let z = ltb-false size room t in sym (take-take room size text z))

-- what is shown lies within the output, which keeps its length
pub shows_length : (printed lent now : List ℕ) (at : ℕ) → Shows printed lent now at → (length now ≡ length lent) × (at ≤ length lent)
shows_length printed lent now at s =
    let p = shown_of printed (length lent) in
    let k : length p ≤ length lent =
    le_or {B = length p ≤ length lent} (length lent) (length printed) (λ h. let z = length-take-le (length lent) printed h in omega arith)
    (λ h. let z : length p ≡ length printed = ap length (take_all (length lent) printed (omega arith)) in omega arith) in
    let e = s.size in
    let n : length now ≡ length lent = ap length s.text ∙ (simp (length-append, length-drop) (omega arith)) in
    (n, omega arith)

pub put_shows : (printed lent now text part : List ℕ) (size at n : ℕ) → Shows printed lent now at → size ≤ length text
    → n ≡ (when size <? (length now - at) then size else (length now - at)) → part ≡ front (take n text) (take (length now - at) (drop at now))
    → Shows (printed ++ take size text) lent (take at now ++ (part ++ drop (length now - at) (drop at now))) (at + n)
put_shows printed lent now text part size at n s b e p =
    let p₀ = shown_of printed (length lent) in
    let l = shows_length printed lent now at s in
    let l₀ = l.0 in
    let l₁ = l.1 in
    let f : length p₀ ≡ at = sym s.size in
    let le = smaller_fits size (length now - at) n e in
    let le₀ = le.0 in
    let le₁ = le.1 in
    let m = length-take-le n text (omega arith) in
    let whole : shown_of (printed ++ take size text) (length lent) ≡ p₀ ++ take n text =
    shown_more printed (take size text) (length lent)
    ∙ ap (λ (k : ℕ). p₀ ++ take (length lent - k) (take size text)) f
    ∙ ap (λ (k : ℕ). p₀ ++ take (k - at) (take size text)) (sym l₀)
    ∙ ap (λ (t : List ℕ). p₀ ++ t) (sym (ap (λ (k : ℕ). take k text) e ∙ cut text size (length now - at) b)) in
    let fits : at + length (take n text) ≤ length lent = omega arith in
    let laid = behind at p₀ (take n text) lent now part f fits s.text p in
    record {
      size = (let q = length-append p₀ (take n text) in let y : at + n ≡ length (p₀ ++ take n text) = omega arith in y) ∙ ap length (sym whole);
      text = laid ∙ ap (λ (t : List ℕ). front t lent) (sym whole);
    }

-- what is laid lies within the output
pub put_within : (now text part : List ℕ) (at n : ℕ) → n ≤ length text → at ≤ length now → part ≡ front (take n text) (take (length now - at) (drop at now))
    → at + n ≤ length (take at now ++ (part ++ drop (length now - at) (drop at now)))
put_within now text part at n b h p =
    let m = length-take-le n text b in
    let t = length-take-le at now h in
    let q : n ≤ length part = rw p (rw length-append (omega arith)) in
    rw (length-append, length-append) (omega arith)

-- nothing is shown of nothing
pub shows_none : (lent : List ℕ) → Shows [] lent lent 0
shows_none lent = record { size = sym (ap length (take-nil (length lent))); text = ap (λ (l : List ℕ). front l lent) (sym (take-nil (length lent))) }

pub as_shown : {x y lent now : List ℕ} {at : ℕ} → x ≡ y → Shows x lent now at → Shows y lent now at
as_shown {x} {y} {lent} {now} {at} e s = subst (λ (z : List ℕ). Shows z lent now at) e s
