-- What the calls of a writer leave is what their meanings say. Assumes nothing.
use Rattle.group.specs.Question.{all_yes}
use Rattle.std.specs.Prelude.{Result, Ok, Err}
use mathlib.Core.Path.{◌≡◌, refl, sym, ap, ◌∙◌, subst}
use mathlib.Core.Bool.{true, false}
use mathlib.Core.List.{List, [], ◌++◌, append-nil}
use Prim.Native.Nat.{ℕ, ◌+◌, ◌≤◌, ◌<◌}
use native.Mathlib.Omega.{arith}
use borrow.Author.Tests.{le-leb, lt-leb, eq-eqb, ne_eqb}
use lib.ListN.{length, take, drop, length-drop, drop_of_length-le}
use lib.Seq.{length-take-le}
use Rattle.group.specs.Choice.{when◌then◌else◌, ◌≤?◌, ◌=?◌}
use Rattle.group.specs.Lent.{front}
use Rattle.group.specs.Question.{judged}
use Rattle.group.specs.declared.Refusal.{Refusal}
use Rattle.group.specs.declared.Refusal.TheVariants.{UnsoundState}
use Rattle.group.specs.Question.{Verdict}
use Rattle.group.proofs.Choice.{when_true, when_false}
use Rattle.message.specs.Order.{Ordered}
use Rattle.text.specs.LaidAt.{written_at, LaidAt}
use Rattle.journal.specs.Limits.{block_size, records_at, records_end, record_head}
use Rattle.journal.specs.Block.{record_of}
use Rattle.journal.specs.Write.{Outcome, told_of, step_of, answer_in, Done, writer_after, writer_sound, grown_to, grown, begun, in_hand, refused, kept_of, closed_of, write_verdict, write_of, finish_of}
use Rattle.journal.specs.Wording.{wording_of}
use Rattle.journal.specs.declared.Answer.TheVariants.{Kept, Closed}
use Rattle.journal.specs.declared.Answer.{Answer}
use Rattle.journal.specs.declared.Step.{Step}
use Rattle.journal.specs.declared.Writer.{Writer}
use Rattle.journal.proofs.Records.{record_length}
use Rattle.journal.proofs.Blocks.{block_length}

done_as : {o p : Outcome} {r : Result Step Refusal} {hand lent after : List ℕ} → o ≡ p → Done o r hand lent after → Done p r hand lent after
done_as {r = r} {hand} {lent} {after} e d = subst (λ (x : Outcome). Done x r hand lent after) e d

-- what is told has the answer
told_answer : (a : Result Answer Refusal) (w : Writer) (n : ℕ) → answer_in (told_of a w n) ≡ a
told_answer (Ok a) w n = refl
told_answer (Err r) w n = refl

told_wording : (o : Outcome) {r : Result Step Refusal} → r ≡ step_of o → wording_of (answer_in r) ≡ wording_of o.answer
told_wording o e = ap (λ (s : Result Step Refusal). wording_of (answer_in s)) e ∙ ap wording_of (told_answer o.answer o.writer (length o.bytes))

-- the clauses of a promise
pub done_says : {o : Outcome} {r : Result Step Refusal} {hand lent after : List ℕ} → Done o r hand lent after
    → (r ≡ step_of o) × ((hand ≡ o.hand) × ((after ≡ front o.bytes lent) × (wording_of (answer_in r) ≡ wording_of o.answer)))
done_says {o = o} d = (d.step, (d.held, (d.lays, told_wording o d.step)))

pub closed_says : {o : Outcome} {r : Result Step Refusal} {hand lent after : List ℕ} → Done o r hand lent after
    → (r ≡ step_of o) × ((after ≡ front o.bytes lent) × (wording_of (answer_in r) ≡ wording_of o.answer))
closed_says {o = o} d = (d.step, (d.lays, told_wording o d.step))

-- the block in hand is as long as a block, so it fills the output
module _ (w : Writer) (hand : List ℕ) (room : length hand ≡ block_size) (low : records_at ≤ w.used) (high : w.used ≤ records_end) where
  pub body_fits : records_at + length (drop records_at (take w.used hand)) ≤ records_end
  body_fits =
      let t = length-take-le w.used hand (omega arith) in
      let d = length-drop records_at (take w.used hand) in
      omega arith

  hand_length : length (in_hand w hand) ≡ block_size
  hand_length = block_length w.first.0 w.records (drop records_at (take w.used hand)) body_fits

  hand_fills : (lent : List ℕ) → length lent ≡ block_size → in_hand w hand ≡ front (in_hand w hand) lent
  hand_fills lent n =
      let h = hand_length in
      let z : drop (length (in_hand w hand)) lent ≡ [] = drop_of_length-le lent {i = length (in_hand w hand)} (omega arith) in
      sym (ap (λ (x : List ℕ). in_hand w hand ++ x) z ∙ append-nil (in_hand w hand))

-- what is left by a record that fits, and by one that does not
abbrev longer : Writer → Ordered → List ℕ → Outcome
longer w m hand = record { writer = grown w m; answer = Ok Kept; hand = written_at w.used (record_of m) hand; bytes = [] }

abbrev anew : Writer → Ordered → List ℕ → Outcome
anew w m hand = record { writer = begun m; answer = Ok Kept; hand = written_at records_at (record_of m) hand; bytes = in_hand w hand }

-- a record that fits: it goes behind the others
pub kept_fits : (w : Writer) (m : Ordered) {hand after lent : List ℕ} {end : ℕ} (writer : Writer) → w.used + record_head + length m.payload ≤ records_end
    → LaidAt w.used (record_of m) hand after end → writer ≡ grown_to w (record { 0 = m.number }) end
    → Done (kept_of w m hand) (Ok (record { writer = writer; answer = Kept; written = 0 })) after lent lent
unfolding kept_of
kept_fits w m {hand} {end = end} writer h l e =
    let n = record_length m in
    done_as (when_true (w.used + length (record_of m) ≤? records_end) (longer w m hand) (longer w m hand) (anew w m hand) (le-leb (w.used + length (record_of m)) records_end (omega arith)) refl)
    (record {
      step = rw (e, l.ends);
      held = l.lays;
      lays = refl;
    })

-- one that does not: the block in hand is handed out, and the record begins the next
pub kept_over : (w : Writer) (m : Ordered) {hand after lent out : List ℕ} {end : ℕ} (writer : Writer) → records_end < w.used + record_head + length m.payload
    → length hand ≡ block_size → length lent ≡ block_size → records_at ≤ w.used → w.used ≤ records_end → out ≡ in_hand w hand
    → LaidAt records_at (record_of m) hand after end → writer ≡ grown_to (writer_after w.tail) (record { 0 = m.number }) end
    → Done (kept_of w m hand) (Ok (record { writer = writer; answer = Kept; written = block_size })) after lent out
unfolding kept_of when◌then◌else◌
kept_over w m {hand} {lent = lent} writer h room n low high o l e =
    let k = record_length m in
    done_as (when_false (w.used + length (record_of m) ≤? records_end) (anew w m hand) (longer w m hand) (anew w m hand) (lt-leb (w.used + length (record_of m)) records_end (omega arith)) refl)
    (record {
      step = rw (e, l.ends, hand_length w hand room low high);
      held = l.lays;
      lays = o ∙ hand_fills w hand room low high lent n;
    })

-- a verdict
pub write_accepted : (w : Writer) (m : Ordered) (hand : List ℕ) {r : Result Step Refusal} {after lent out : List ℕ} → write_verdict w m ≡ all_yes
    → Done (kept_of w m hand) r after lent out → Done (write_of w m hand) r after lent out
unfolding write_of judged
write_accepted w m hand e d = done_as (ap (λ (v : Verdict). judged v (refused w hand) (kept_of w m hand)) (sym e)) d

pub write_refused : (w : Writer) (m : Ordered) (hand lent : List ℕ) (refusal : Refusal) → write_verdict w m ≡ Err refusal
    → Done (write_of w m hand) (Err refusal) hand lent lent
unfolding write_of judged
write_refused w m hand lent refusal e =
    done_as (ap (λ (v : Verdict). judged v (refused w hand) (kept_of w m hand)) (sym e)) (record { step = refl; held = refl; lays = refl })

-- shutdown: with nothing in hand, with a block, and refused
module _ (w : Writer) (hand lent : List ℕ) where
  closes_as : {r : Result Step Refusal} {out : List ℕ} → writer_sound w ≡ true → Done (closed_of w hand) r hand lent out → Done (finish_of w hand) r hand lent out
  unfolding finish_of
  closes_as s d = done_as (when_true (writer_sound w) _ _ _ s refl) d

  pub closed_none : (writer : Writer) → writer_sound w ≡ true → w.records ≡ 0 → writer ≡ writer_after w.tail
      → Done (finish_of w hand) (Ok (record { writer = writer; answer = Closed; written = 0 })) hand lent lent
  unfolding when◌then◌else◌
  closed_none writer s z e =
      let n : (w.records =? 0) ≡ true = eq-eqb w.records 0 z in
      closes_as s (record { step = rw (e, n); held = refl; lays = rw n })

  pub closed_block : (writer : Writer) {out : List ℕ} → writer_sound w ≡ true → (w.records ≡ 0 → ⊥) → writer ≡ writer_after w.tail
      → length hand ≡ block_size → length lent ≡ block_size → records_at ≤ w.used → w.used ≤ records_end → out ≡ in_hand w hand
      → Done (finish_of w hand) (Ok (record { writer = writer; answer = Closed; written = block_size })) hand lent out
  unfolding when◌then◌else◌
  closed_block writer s z e room n low high o =
      let f : (w.records =? 0) ≡ false = ne_eqb w.records 0 z in
      closes_as s
      (record {
        step = rw (e, f, hand_length w hand room low high);
        held = refl;
        lays = rw f (o ∙ hand_fills w hand room low high lent n);
      })

  pub closed_refused : writer_sound w ≡ false → Done (finish_of w hand) (Err UnsoundState) hand lent lent
  unfolding finish_of
  closed_refused s = done_as (when_false (writer_sound w) _ _ _ s refl) (record { step = refl; held = refl; lays = refl })
