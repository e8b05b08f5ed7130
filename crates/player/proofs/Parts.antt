-- What is printed part by part is what the whole input prints, whatever a line tells: a line that is cut tells what the whole line tells, and
-- what is left of the input begins with the line that has not ended. Assumes nothing.
use mathlib.Core.Path.{◌≡◌, refl, sym, ap, ◌∙◌, subst}
use mathlib.Core.Bool.{Bool, true, false}
use mathlib.Core.List.{List, [], ◌∷◌, ◌++◌, append-nil, append_assoc}
use Prim.Native.Nat.{ℕ, suc, ◌+◌, ◌-◌, ◌≤◌, ◌<◌, zero-le}
use native.Mathlib.Omega.{arith}
use native.Mathlib.Nat.{zero-add, le_refl}
use native.Mathlib.Numerals.{add-one}
use lib.ListN.{length, take, drop, length-drop}
use lib.Seq.{length-take-le, take_at, take_all, drop-length, drop-drop}
use Rattle.group.proofs.Choice.{when_eq, when_ne}
use Rattle.group.specs.Choice.{when◌then◌else◌, ◌=?◌}
use Rattle.group.specs.Lent.{front}
use borrow.Author.Tests.{eqb-true, eqb-false}
use Rattle.text.proofs.Split.{found_from}
use Rattle.text.specs.Field.{first_from, line_end, before, lines_of}
use Rattle.schedule.specs.Line.{line_most}
use Rattle.text.specs.Text.{line_feed}
use Rattle.std.specs.Prelude.{Option, None, Some}
use Rattle.player.specs.Lines.{Told, Program, lines_told, output_from}
use Rattle.player.specs.Parts.{kept_of, State, start_of, Fed, said_of, told_as, fed_up_to, fed_of, end_of, Prints, ends, feeds, Continues, ToldKept, ReadsOn, Quiet, PrintsAll}
use Rattle.player.proofs.Keeping.{kept_kept}

-- no line feed stands in it
unfoldable Open : List ℕ → Type 0
Open [] = Unit {0}
Open (c ∷ line) = (c ≡ line_feed → ⊥) × Open line

open_append : (a b : List ℕ) → Open a → Open b → Open (a ++ b)
unfolding Open
open_append [] b p q = q
open_append (c ∷ a) b p q = (p.0, open_append a b p.1 q)

-- a line that ends
line_ends : (line rest : List ℕ) → Open line → lines_of (line ++ (line_feed ∷ rest)) ≡ line ∷ lines_of rest
unfolding lines_of Open before
line_ends [] rest p = sym (when_eq line_feed line_feed _ _ _ refl refl)
line_ends (c ∷ line) rest p =
    sym (when_ne c line_feed _ _ _ p.0 refl) ∙ ap (before c) (line_ends line rest p.1)

-- a line that has not ended is one at the end of the input, unless it is empty
line_last : (c : ℕ) (line : List ℕ) → Open (c ∷ line) → lines_of (c ∷ line) ≡ (c ∷ line) ∷ []
unfolding lines_of Open before
line_last c [] p = sym (when_ne c line_feed _ _ _ p.0 refl)
line_last c (d ∷ line) p = sym (when_ne c line_feed _ _ _ p.0 refl) ∙ ap (before c) (line_last d line p.1)

nothing≢ : {e : ℕ} → None ≡ Some e → ⊥
nothing≢ h = let z : ◌≡◌ {A = ℕ} 0 1 = cc in omega arith

-- a part up to its first line feed
record Ends (part : List ℕ) (i e : ℕ) : Type 0 where
  size : ℕ
  here : e ≡ i + size
  shut : Open (take size part)
  split : part ≡ take size part ++ (line_feed ∷ drop (suc size) part)

found_at : (part : List ℕ) (i e : ℕ) → first_from line_feed i part ≡ Some e → Ends part i e
unfolding first_from Open when◌then◌else◌
found_at [] i e h = absurd (nothing≢ h)
found_at (c ∷ part) i e h = go (c =? line_feed) refl (found_at part (i + 1) e) h
  where
    go : (t : Bool) → (c =? line_feed) ≡ t → (first_from line_feed (i + 1) part ≡ Some e → Ends part (i + 1) e) → when t then Some i else first_from line_feed (i + 1) part ≡ Some e
        → Ends (c ∷ part) i e
    go true t further h =
        let z : i ≡ e = cc in
        let l = eqb-true c line_feed t in
        record { size = 0; here = omega arith; shut = tt; split = ap (λ (x : ℕ). x ∷ part) l }
    go false t further h =
        let r = further h in
        let y = r.here in
        record {
          size = suc r.size;
          here = omega arith;
          shut = (eqb-false c line_feed t, r.shut);
          split = ap (λ (l : List ℕ). c ∷ l) r.split;
        }

found_none : (part : List ℕ) (i : ℕ) → first_from line_feed i part ≡ None → Open part
unfolding first_from Open when◌then◌else◌
found_none [] i h = tt
found_none (c ∷ part) i h = go (c =? line_feed) refl (found_none part (i + 1)) h
  where
    go : (t : Bool) → (c =? line_feed) ≡ t → (first_from line_feed (i + 1) part ≡ None → Open part) → when t then Some i else first_from line_feed (i + 1) part ≡ None
        → Open (c ∷ part)
    go true t further h = absurd (nothing≢ (sym h))
    go false t further h = (eqb-false c line_feed t, further h)

module _ {Stage : Type 0} (line_told : Stage → List ℕ → Told Stage) (told_kept : ToldKept line_told) where
  -- a cut line that goes on
  module _ (s : State Stage) (line : List ℕ) (k : s.line ≡ kept_of line) where
    goes_on : (part : List ℕ) → kept_of (s.line ++ part) ≡ kept_of (line ++ part)
    goes_on part = ap (λ (l : List ℕ). kept_of (l ++ part)) k ∙ kept_kept line part

    goes_told : (part : List ℕ) → line_told s.stage (kept_of (s.line ++ part)) ≡ line_told s.stage (line ++ part)
    goes_told part = ap (line_told s.stage) (goes_on part) ∙ told_kept s.stage (line ++ part)

  -- a program
  module _ (program : Program Stage) (quiet : Quiet program) where
    -- what it says of a line, and then prints
    abbrev on : Stage → List ℕ → List ℕ → List ℕ
    on stage text rest = program.says stage text ++ rest

    silent : (stage : Stage) (rest : List ℕ) → on stage [] rest ≡ rest
    silent stage rest = ap (λ (l : List ℕ). l ++ rest) (quiet stage)

    -- the end of the input
    at_end : (s : State Stage) (line : List ℕ) → s.line ≡ kept_of line → Open line
        → said_of program (end_of line_told s) ++ program.last (end_of line_told s).state.stage ≡ lines_told line_told program s.stage (lines_of (line ++ []))
    unfolding end_of lines_told lines_of
    at_end s [] k o =
        ap (λ (f : Fed Stage). on f.state.stage f.text (program.last f.state.stage)) (sym (when_eq (length s.line) 0 _ _ _ (ap length k) refl))
        ∙ silent s.stage (program.last s.stage)
    at_end s (c ∷ line) k o =
        let n : length s.line ≡ suc (length (take line_most line)) = ap length k in
        let told : line_told s.stage s.line ≡ line_told s.stage (c ∷ line) = ap (line_told s.stage) k ∙ told_kept s.stage (c ∷ line) in
        ap (λ (f : Fed Stage). on f.state.stage f.text (program.last f.state.stage)) (sym (when_ne (length s.line) 0 _ _ _ (λ z. omega arith) refl))
        ∙ ap (λ (t : Told Stage). on t.stage t.text (program.last t.stage)) told
        ∙ ap (lines_told line_told program s.stage) (sym (ap lines_of (append-nil (c ∷ line)) ∙ line_last c line o))

    -- what the rest of the input prints, where a line has not ended of which something is kept
    prints : {s : State Stage} {input output : List ℕ} → Prints line_told program s input output → (line : List ℕ) → Open line → s.line ≡ kept_of line
        → output ≡ lines_told line_told program s.stage (lines_of (line ++ input))
    unfolding fed_up_to lines_told Open
    prints (ends s) line o k = at_end s line k o
    prints (feeds {output} s part rest p) line o k = go (line_end part) refl (λ l u v. prints p l u v)
      where
        go : (f : Option ℕ) → line_end part ≡ f
            → ((l : List ℕ) → Open l → (fed_up_to line_told f s part).state.line ≡ kept_of l → output ≡ lines_told line_told program (fed_up_to line_told f s part).state.stage (lines_of (l ++ (drop (fed_up_to line_told f s part).used part ++ rest))))
            → said_of program (fed_up_to line_told f s part) ++ output ≡ lines_told line_told program s.stage (lines_of (line ++ (part ++ rest)))
        go (Some e) f h =
            let r = found_at part 0 e f in
            let y : e ≡ r.size = r.here ∙ zero-add r.size in
            let shut : Open (take e part) = subst (λ (x : ℕ). Open (take x part)) (sym y) r.shut in
            let split : part ≡ take e part ++ (line_feed ∷ drop (suc e) part) = subst (λ (x : ℕ). part ≡ take x part ++ (line_feed ∷ drop (suc x) part)) (sym y) r.split in
            let more = drop (e + 1) part ++ rest in
            let whole : line ++ (part ++ rest) ≡ (line ++ take e part) ++ (line_feed ∷ more) =
            ap (λ (x : List ℕ). line ++ (x ++ rest)) split
            ∙ ap (λ (x : List ℕ). line ++ x) (append_assoc (take e part) (line_feed ∷ drop (suc e) part) rest)
            ∙ sym (append_assoc line (take e part) (line_feed ∷ (drop (suc e) part ++ rest)))
            ∙ ap (λ (x : ℕ). (line ++ take e part) ++ (line_feed ∷ (drop x part ++ rest))) (sym (add-one e)) in
            let lines : lines_of (line ++ (part ++ rest)) ≡ (line ++ take e part) ∷ lines_of more =
            ap lines_of whole ∙ line_ends (line ++ take e part) more (open_append line (take e part) o shut) in
            let told = goes_told s line k (take e part) in
            let first = line_told s.stage (kept_of (s.line ++ take e part)) in
            ap (on first.stage first.text) (h [] tt refl)
            ∙ ap (λ (t : Told Stage). on t.stage t.text (lines_told line_told program t.stage (lines_of more))) told
            ∙ ap (lines_told line_told program s.stage) (sym lines)
        go None f h =
            silent s.stage output
            ∙ h (line ++ part) (open_append line part o (found_none part 0 f)) (goes_on s line k part)
            ∙ ap (λ (x : List ℕ). lines_told line_told program s.stage (lines_of ((line ++ part) ++ (x ++ rest)))) (drop-length part)
            ∙ ap (λ (x : List ℕ). lines_told line_told program s.stage (lines_of x)) (append_assoc line part rest)

  pub prints_all : (opening : Stage) → PrintsAll line_told opening
  unfolding Open
  prints_all opening program quiet input output p = prints program quiet p [] tt refl

  -- nothing is left of an input that was read
  pub continues_end : (opening : Stage) (program : Program Stage) → Quiet program → (s : State Stage) (input printed left : List ℕ) → left ≡ [] → Continues line_told program (start_of opening) input printed s left
      → printed ++ (said_of program (end_of line_told s) ++ program.last (end_of line_told s).state.stage) ≡ output_from line_told opening program input
  continues_end opening program quiet s input printed left e k =
      let last = said_of program (end_of line_told s) ++ program.last (end_of line_told s).state.stage in
      let p : Prints line_told program s (left ++ []) last = subst (λ (l : List ℕ). Prints line_told program s l last) (sym (append-nil left ∙ e)) (ends s) in
      prints_all opening program quiet input (printed ++ last) (subst (λ (l : List ℕ). Prints line_told program (start_of opening) l (printed ++ last)) (append-nil input) (k [] last p))

module _ {Stage : Type 0} (line_told : Stage → List ℕ → Told Stage) where
  pub reads_on : ReadsOn line_told
  unfolding fed_up_to
  reads_on s part h = go (line_end part) refl
    where
      go : (f : Option ℕ) → line_end part ≡ f → (1 ≤ (fed_up_to line_told f s part).used) × ((fed_up_to line_told f s part).used ≤ length part)
      go (Some e) f = let k = (found_from line_feed part 0 e zero-le f).1 in (omega arith, omega arith)
      go None f = (h, le_refl (length part))

  -- what is read of the rest of an input lies within it
  pub reads_within : (s : State Stage) (part rest : List ℕ) (from used : ℕ) → rest ≡ take (length part - from) (drop from part) → from < length part → used ≡ (fed_of line_told s rest).used
      → (1 ≤ used) × (from + used ≤ length part)
  reads_within s part rest from used r h e =
      let d = length-drop from part in
      let n : length rest ≡ length part - from = ap length r ∙ length-take-le (length part - from) (drop from part) (omega arith) in
      let k = reads_on s rest (omega arith) in
      let lo = k.0 in
      let hi = k.1 in
      (omega arith, omega arith)

  -- the end of the input, and a part of it, by what is said of what was fed
  module _ (Says : Fed Stage → Type 0) (s : State Stage) where
    pub ends_none : length s.line ≡ 0 → Says (record { text = []; state = s; used = 0 }) → Says (end_of line_told s)
    unfolding end_of
    ends_none z d = subst Says (when_eq (length s.line) 0 _ _ _ z refl) d

    pub ends_told : (length s.line ≡ 0 → ⊥) → Says (told_as (line_told s.stage s.line) 0) → Says (end_of line_told s)
    unfolding end_of
    ends_told z d = subst Says (when_ne (length s.line) 0 _ _ _ z refl) d

    pub feeds_line : (part line : List ℕ) (e : ℕ) → line_end part ≡ Some e → line ≡ kept_of (s.line ++ take e part) → Says (told_as (line_told s.stage line) (e + 1)) → Says (fed_of line_told s part)
    unfolding fed_up_to
    feeds_line part line e f l d = subst (λ (x : Option ℕ). Says (fed_up_to line_told x s part)) (sym f) (subst (λ (x : List ℕ). Says (told_as (line_told s.stage x) (e + 1))) l d)

    pub feeds_none : (part : List ℕ) → line_end part ≡ None
        → Says (record { text = []; state = record { stage = s.stage; line = kept_of (s.line ++ part) }; used = length part }) → Says (fed_of line_told s part)
    unfolding fed_up_to
    feeds_none part f d = subst (λ (x : Option ℕ). Says (fed_up_to line_told x s part)) (sym f) d

-- the text that was laid at the front of an output
pub laid_front : (text lent after : List ℕ) (size : ℕ) → after ≡ front text lent → size ≡ length text → take size after ≡ text
laid_front text lent after size a e = rw (a, e) (take_at text (drop (length text) lent) (length text) refl)

module _ {Stage : Type 0} {line_told : Stage → List ℕ → Told Stage} (program : Program Stage) where
  -- nothing was read; a part of what is left was fed
  pub continues_none : (s t : State Stage) (input : List ℕ) → t ≡ s → Continues line_told program s input [] t input
  continues_none s t input e rest output p = subst (λ (x : State Stage). Prints line_told program x (input ++ rest) output) e p

  pub continues_fed : (s t u : State Stage) (input printed part : List ℕ) (from used : ℕ) → part ≡ take (length input - from) (drop from input) → used ≡ (fed_of line_told t part).used → u ≡ (fed_of line_told t part).state
      → Continues line_told program s input printed t (drop from input) → Continues line_told program s input (printed ++ said_of program (fed_of line_told t part)) u (drop (from + used) input)
  continues_fed s t u input printed part from used r n e k rest output p =
      let fed = fed_of line_told t part in
      let said = said_of program fed in
      let all : part ≡ drop from input = r ∙ take_all (length input - from) (drop from input) (let d = length-drop from input in omega arith) in
      let d : drop (from + used) input ≡ drop fed.used part = sym (drop-drop used from input) ∙ ap (drop used) (sym all) ∙ ap (λ (x : ℕ). drop x part) n in
      let q : Prints line_told program fed.state (drop fed.used part ++ rest) output =
      subst (λ (x : State Stage). Prints line_told program x (drop fed.used part ++ rest) output) e (subst (λ (l : List ℕ). Prints line_told program u (l ++ rest) output) d p) in
      let f : Prints line_told program t (drop from input ++ rest) (said ++ output) = subst (λ (l : List ℕ). Prints line_told program t (l ++ rest) (said ++ output)) all (feeds t part rest q) in
      subst (λ (l : List ℕ). Prints line_told program s (input ++ rest) l) (sym (append_assoc printed said output)) (k rest (said ++ output) f)
