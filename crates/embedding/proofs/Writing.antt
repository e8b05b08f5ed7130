-- A writer's numbers stay small, and what a call of a writer comes to, where its second number is 0 or 1 and where it is not.
-- Assumes nothing.
use Rattle.group.specs.Question.{all_yes}
use Rattle.std.specs.Prelude.{Result, Ok, Err}
use mathlib.Core.Path.{◌≡◌, refl, sym, ap, ◌∙◌, subst}
use mathlib.Core.Bool.{Bool, true, false}
use mathlib.Core.List.{List, [], ◌∷◌}
use Prim.Native.Nat.{ℕ, ◌+◌, ◌<◌, ◌≤◌}
use native.Mathlib.Omega.{arith}
use lib.ListN.{length, get_or}
use Rattle.group.specs.Lent.{front}
use Rattle.group.proofs.Choice.{when_le, when_nle}
use Rattle.group.proofs.Lists.{when_elim}
use borrow.Author.Tests.{eq-eqb, ne_eqb}
use Rattle.group.specs.Choice.{when◌then◌else◌, ◌≤?◌}
use Rattle.journal.specs.Limits.{records_end}
use Rattle.journal.specs.Block.{record_of}
use Rattle.group.proofs.Lists.{eq_or}
use Rattle.group.specs.Question.{judged}
use Rattle.group.specs.Wording.{refused_wording}
use Rattle.group.specs.Question.{Verdict}
use Rattle.group.specs.declared.Refusal.{Refusal}
use Rattle.group.specs.declared.Refusal.TheVariants.{UnsoundState}
use Rattle.message.specs.Order.{Ordered}
use Rattle.journal.specs.Wording.{wording_of}
use Rattle.journal.specs.Write.{Outcome, told_of, step_of, refused, kept_of, writer_after, writer_sound, write_verdict, write_of, finish_of}
use Rattle.journal.specs.declared.Answer as journal
use Rattle.journal.specs.declared.Step.{Step}
use Rattle.journal.specs.declared.Tail.{Tail}
use Rattle.journal.specs.declared.Writer.{Writer}
use Rattle.journal.proofs.Sound.{Sound, sound_says, after_sound, stays_sound}
use Rattle.embedding.specs.Codes.{code_of, numbers_of, answer_of}
use Rattle.embedding.specs.Journals.{writer_in, writer_numbers, writer_told, Written, asked_of, written_of, finished_of, Writes}
use Rattle.embedding.specs.declared.Answer.{Answer}
use Rattle.embedding.proofs.Codes.{kept_code, closed_code}

-- what fits a number of the boundary
abbrev pub Small : Writer → Type 0
Small w = (w.records < 4294967296) × (w.used < 4294967296)

small_of : (w : Writer) → Sound w → Small w
small_of w s = (let f = s.fits in let e = s.ends in omega arith, let e = s.ends in omega arith)

pub after_small : (t : Tail) → Small (writer_after t)
after_small t = small_of (writer_after t) (after_sound t)

-- an unsound writer is left
write_leaves : (w : Writer) (m : Ordered) (hand : List ℕ) → writer_sound w ≡ false → (write_of w m hand).writer ≡ w
unfolding write_of write_verdict judged when◌then◌else◌
write_leaves w m hand s = rw s

pub write_small : (w : Writer) (m : Ordered) (hand : List ℕ) → Small w → Small (write_of w m hand).writer
write_small w m hand b = go (writer_sound w) refl
  where
    go : (t : Bool) → writer_sound w ≡ t → Small (write_of w m hand).writer
    go true s = small_of (write_of w m hand).writer (sound_says (write_of w m hand).writer (stays_sound w m hand s).0)
    go false s = subst Small (sym (write_leaves w m hand s)) b

pub finish_small : (w : Writer) (hand : List ℕ) → Small w → Small (finish_of w hand).writer
unfolding finish_of
finish_small w hand b = when_elim (λ (o : Outcome). Small o.writer) (writer_sound w) (λ t. after_small w.tail) (λ t. b)

abbrev answer : ℕ → ℕ → Answer
answer k n = record { code = k; number = n }

pub kept_told_lem : (n : ℕ) → answer 48 n ≡ writer_told (Ok journal.Answer.Kept) n
unfolding writer_told wording_of code_of
kept_told_lem n = ap (λ k. answer k n) (sym kept_code)

pub closed_told : (n : ℕ) → answer 57 n ≡ writer_told (Ok journal.Answer.Closed) n
unfolding writer_told wording_of code_of
closed_told n = ap (λ k. answer k n) (sym closed_code)

refused_told : (r : Refusal) → answer_of (refused_wording r) ≡ writer_told (Err r) 0
unfolding writer_told wording_of answer_of code_of numbers_of
refused_told r = refl

-- a call gave back a step, or a refusal
told_ok : (a : Result journal.Answer Refusal) (w : Writer) (n : ℕ) (s : Step) → Ok s ≡ told_of a w n
    → (a ≡ Ok s.answer) × (s.writer ≡ w) × (s.written ≡ n)
told_ok (Ok x) w n s e =
    let f : s ≡ record { writer = w; answer = x; written = n } = cc in
    (ap (λ (y : Step). Ok y.answer) (sym f), ap (λ (y : Step). y.writer) f, ap (λ (y : Step). y.written) f)
told_ok (Err r) w n s e = absurd (let z : ◌≡◌ {A = ℕ} 0 1 = cc in omega arith)

told_err : (w : Writer) (n : ℕ) (q r : Refusal) → Err r ≡ told_of (Err q) w n → q ≡ r
told_err w n q r e = (cc)

-- a refused call leaves everything
write_was : (w : Writer) (m : Ordered) (hand : List ℕ) (r : Refusal) → Err r ≡ step_of (write_of w m hand) → write_of w m hand ≡ refused w hand r
unfolding write_of judged kept_of
write_was w m hand r e = go (write_verdict w m) e
  where
    go : (v : Verdict) → Err r ≡ step_of (judged v (refused w hand) (kept_of w m hand)) → judged v (refused w hand) (kept_of w m hand) ≡ refused w hand r
    go (Err q) e = ap (refused w hand) (told_err w 0 q r e)
    go (Ok _) e =
        absurd
        ((when_elim (λ (o : Outcome). Err r ≡ step_of o → ⊥) (w.used + length (record_of m) ≤? records_end)
        (λ t e. let z : ◌≡◌ {A = ℕ} 0 1 = cc in omega arith)
        (λ t e. let z : ◌≡◌ {A = ℕ} 0 1 = cc in omega arith)) e)

finish_was : (w : Writer) (hand : List ℕ) (r : Refusal) → Err r ≡ step_of (finish_of w hand) → finish_of w hand ≡ refused w hand r
unfolding finish_of
finish_was w hand r e =
    (when_elim (λ (o : Outcome). Err r ≡ step_of o → o ≡ refused w hand r) (writer_sound w)
    (λ t e. absurd (let z : ◌≡◌ {A = ℕ} 0 1 = cc in omega arith))
    (λ t e. ap (refused w hand) (told_err w 0 _ r e))) e

-- five numbers are those of their writer
numbers_back : (l : List ℕ) → length l ≡ 5 → get_or l 1 0 ≤ 1 → writer_numbers (writer_in l) ≡ l
unfolding writer_numbers writer_in when◌then◌else◌
numbers_back (a ∷ b ∷ c ∷ d ∷ e ∷ []) n h =
    eq_or b 0
    (λ z. rw (eq-eqb b 0 z, z) refl)
    (λ z.
    let one : 1 ≡ b = omega arith in
    rw (ne_eqb b 0 z, ← one) refl)
numbers_back (a ∷ b ∷ c ∷ d ∷ e ∷ f ∷ l) n h = absurd (omega arith)
numbers_back (a ∷ b ∷ c ∷ d ∷ []) n h = absurd (omega arith)
numbers_back (a ∷ b ∷ c ∷ []) n h = absurd (omega arith)
numbers_back (a ∷ b ∷ []) n h = absurd (omega arith)
numbers_back (a ∷ []) n h = absurd (omega arith)
numbers_back [] n h = absurd (omega arith)

writes_as : {v w : Written} {r : Answer} {left held before after : List ℕ} → v ≡ w → Writes v r left held before after → Writes w r left held before after
writes_as {r = r} {left = left} {held = held} {before = before} {after = after} e d = subst (λ x. Writes x r left held before after) e d

pub writes_done : (writer hand : List ℕ) (o : Outcome) {r : Answer} {left held before after : List ℕ} → get_or writer 1 0 ≤ 1
    → r ≡ writer_told o.answer (length o.bytes) → left ≡ writer_numbers o.writer → held ≡ o.hand → after ≡ front o.bytes before
    → Writes (asked_of writer hand o) r left held before after
unfolding asked_of
writes_done writer hand o s a l h b = writes_as (when_le (get_or writer 1 0) 1 _ _ _ s refl) (record { answers = a; left = l; held = h; lays = b })

pub writes_none : (writer hand : List ℕ) (o : Outcome) {before : List ℕ} → 1 < get_or writer 1 0
    → Writes (asked_of writer hand o) (answer_of (refused_wording UnsoundState)) writer hand before before
unfolding asked_of
writes_none writer hand o s =
    writes_as (when_nle (get_or writer 1 0) 1 _ _ _ s refl) (record { answers = refl; left = refl; held = refl; lays = refl })

-- the same of what a writer with those numbers gave back: a step, or a refusal
module _ (writer hand : List ℕ) (state : Writer) (is : state ≡ writer_in writer) (s : get_or writer 1 0 ≤ 1) {r : Answer} {left held before after : List ℕ} where
  by_step : (f : Writer → Outcome) (step : Step) → Ok step ≡ step_of (f state) → r ≡ writer_told (Ok step.answer) step.written
      → left ≡ writer_numbers step.writer → held ≡ (f state).hand → after ≡ front (f state).bytes before
      → Writes (asked_of writer hand (f (writer_in writer))) r left held before after
  by_step f step e a l h b =
      let (x, y, z) = told_ok (f state).answer (f state).writer (length (f state).bytes) step e in
      subst (λ (x : Writer). Writes (asked_of writer hand (f x)) r left held before after) is
      (writes_done writer hand (f state) s
      (a ∙ ap (λ (q : Result journal.Answer Refusal). writer_told q step.written) (sym x) ∙ ap (writer_told (f state).answer) z)
      (l ∙ ap writer_numbers y) h b)

  by_refusal : (f : Writer → Outcome) (q : Refusal) → f state ≡ refused state hand q → length writer ≡ 5 → r ≡ answer_of (refused_wording q)
      → left ≡ writer → held ≡ (f state).hand → after ≡ front (f state).bytes before
      → Writes (asked_of writer hand (f (writer_in writer))) r left held before after
  by_refusal f q same n a l h b =
      subst (λ (x : Writer). Writes (asked_of writer hand (f x)) r left held before after) is
      (writes_done writer hand (f state) s
      (a ∙ refused_told q ∙ ap (λ (o : Outcome). writer_told o.answer (length o.bytes)) (sym same))
      (l ∙ sym (numbers_back writer n s) ∙ ap writer_numbers (sym is ∙ ap (λ (o : Outcome). o.writer) (sym same))) h b)

  module _ (step : Step) where
    pub writes_step : (m : Ordered) → Ok step ≡ step_of (write_of state m hand) → r ≡ writer_told (Ok step.answer) step.written → left ≡ writer_numbers step.writer
        → held ≡ (write_of state m hand).hand → after ≡ front (write_of state m hand).bytes before → Writes (written_of writer m hand) r left held before after
    writes_step m e a l h b = by_step (λ w. write_of w m hand) step e a l h b

    pub finish_step : Ok step ≡ step_of (finish_of state hand) → r ≡ writer_told (Ok step.answer) step.written → left ≡ writer_numbers step.writer
        → held ≡ (finish_of state hand).hand → after ≡ front (finish_of state hand).bytes before → Writes (finished_of writer hand) r left held before after
    finish_step e a l h b = by_step (λ w. finish_of w hand) step e a l h b

  module _ (q : Refusal) (n : length writer ≡ 5) where
    pub writes_refused : (m : Ordered) → Err q ≡ step_of (write_of state m hand) → r ≡ answer_of (refused_wording q) → left ≡ writer
        → held ≡ (write_of state m hand).hand → after ≡ front (write_of state m hand).bytes before → Writes (written_of writer m hand) r left held before after
    writes_refused m e a l h b = by_refusal (λ w. write_of w m hand) q (write_was state m hand q e) n a l h b

    pub finish_refused : Err q ≡ step_of (finish_of state hand) → r ≡ answer_of (refused_wording q) → left ≡ writer
        → held ≡ (finish_of state hand).hand → after ≡ front (finish_of state hand).bytes before → Writes (finished_of writer hand) r left held before after
    finish_refused e a l h b = by_refusal (λ w. finish_of w hand) q (finish_was state hand q e) n a l h b

-- a step that was taken leaves small numbers
pub step_small : (o : Outcome) (step : Step) → Ok step ≡ step_of o → Small o.writer → Small step.writer
step_small o step e b = let (_, y, _) = told_ok o.answer o.writer (length o.bytes) step e in subst Small (sym y) b

-- shutdown leaves the block in hand
pub finish_hand : (w : Writer) (hand : List ℕ) → hand ≡ (finish_of w hand).hand
unfolding finish_of
finish_hand w hand = when_elim (λ (o : Outcome). hand ≡ o.hand) (writer_sound w) (λ t. refl) (λ t. refl)
