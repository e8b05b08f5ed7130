-- The laws by which loops go on: over the records of a block one record, over the blocks of a journal one block.
-- Assumes nothing.
use Rattle.std.specs.Prelude.{Option, Some, None}
use mathlib.Core.Path.{◌≡◌, refl, sym, ap, ◌∙◌}
use mathlib.Core.Bool.{Bool, true, false}
use mathlib.Core.List.{List, ◌++◌}
use Prim.Native.Nat.{ℕ, zero, suc, ◌+◌, ◌*◌, ◌-◌, ◌/◌, ◌≤◌, ◌<◌}
use native.Mathlib.Nat.{add-zero, zero-add, sub-zero}
use native.Mathlib.Omega.{arith}
use borrow.Author.Tests.{le-leb, lt-leb, eq-eqb, ne_eqb, leb-true}
use lib.ListN.{length, take, drop, length-append}
use lib.Seq.{drop-drop}
use Rattle.group.specs.Choice.{when◌then◌else◌, ◌and◌, ◌≤?◌, ◌=?◌}
use Rattle.group.specs.Limits.{largest_number}
use Rattle.group.proofs.Choice.{when_true, when_false, both_hold, both_first, both_then, first_fails, then_fails}
use Rattle.group.proofs.Lists.{when_elim}
use Rattle.message.specs.Message.{all_zero}
use Rattle.big_endian.specs.Number.{number_at}
use Rattle.journal.specs.Limits.{block_size, records_at, records_end, record_head, number_size}
use Rattle.journal.specs.Block.{first_at, records_in, behind, follows, record_right, record_start, behind_in, record_number, step_right, records_right, form_of, form_right, sum_right, content_right, block_right, messages_from, last_from, messages_of, tail_with, tail_of}
use Rattle.journal.specs.Walk.{passed_of, last_or, last_of}
use Rattle.journal.specs.Read.{Reads, fresh_tail, nothing, joined, found_from, found_in, counted, next_of, record_at, entry_of}
use Rattle.journal.specs.declared.Form.{Form}
use Rattle.journal.specs.declared.Form.TheVariants.{Log, Compact}
use Rattle.journal.specs.declared.Found.{Found}
use Rattle.journal.specs.declared.Passed.{Passed}
use Rattle.journal.specs.declared.Record.{Record}
use Rattle.journal.specs.declared.Tail.{Tail}
use Rattle.journal.proofs.Lists.{drop_take}
use Rattle.journal.proofs.Records.{right_says, step_says, says_step, entry_right}

-- a value that is given if a test holds, and else none
module _ {A : Type 0} where
  pub some_was : (b : Bool) (v x : A) → (when b then Some v else None) ≡ Some x → (b ≡ true) × (v ≡ x)
  unfolding when◌then◌else◌
  some_was true v x e = (refl, (cc))
  some_was false v x e = absurd (let y : ◌≡◌ {A = ℕ} 0 1 = cc in omega arith)

  pub none_was : (b : Bool) (v : A) → (when b then Some v else None) ≡ None → b ≡ false
  unfolding when◌then◌else◌
  none_was true v e = absurd (let y : ◌≡◌ {A = ℕ} 0 1 = cc in omega arith)
  none_was false v e = refl

-- where the record at an index ends, worked out by its entry
module _ (block : List ℕ) (at number : ℕ) where
  right_was : (r : Record) → entry_of block at (record { 0 = number }) ≡ Some r
      → (record_right block at number ≡ true) × (record_at block at (record { 0 = number }) ≡ r)
  unfolding entry_of
  right_was r e =
      let (right, same) = some_was (length block =? block_size and record_right block at number) _ r e in
      (both_then (length block =? block_size) _ right, same)

  pub end_right : (r : Record) → entry_of block at (record { 0 = number }) ≡ Some r
      → Some (r.start + r.length) ≡ (when record_right block at number then Some (behind block at) else None)
  end_right r e =
      let (right, same) = right_was r e in
      when_true (record_right block at number) _ _ _ right (sym (ap (λ (x : Record). Some (x.start + x.length)) same))

  pub end_within : (r : Record) → entry_of block at (record { 0 = number }) ≡ Some r → r.start + r.length ≤ records_end
  end_within r e =
      let (right, same) = right_was r e in
      rw (← same) (right_says block at number right).ends

  pub end_wrong : length block ≡ block_size → entry_of block at (record { 0 = number }) ≡ None
      → None ≡ (when record_right block at number then Some (behind block at) else None)
  end_wrong n e =
      when_elim (λ (x : Option ℕ). None ≡ x) (record_right block at number)
      (λ t.
      let f = entry_right block at (record { 0 = number }) n (right_says block at number t) ∙ e in
      absurd (let y : ◌≡◌ {A = ℕ} 0 1 = cc in omega arith))
      (λ t. refl)

-- a record is passed: by its number, and then by where it ends
wrong_passes : (form : Form) (block : List ℕ) (at before : ℕ) → (step_right form block at before ≡ true → ⊥) → None ≡ passed_of form block at before
wrong_passes form block at before w =
    when_elim (λ (x : Option Passed). None ≡ x) (step_right form block at before) (λ t. absurd (w t)) (λ t. refl)

module _ (block : List ℕ) (at before : ℕ) where
  pub passes_above : largest_number ≤ before → None ≡ passed_of Log block at before
  passes_above h = wrong_passes Log block at before (λ t. let m = (step_says block Log at before t).1.most in omega arith)

  pub passes_short : records_end - number_size < at → None ≡ passed_of Compact block at before
  passes_short h = wrong_passes Compact block at before (λ t. let m = (step_says block Compact at before t).1.begins in omega arith)

  pub passes_low : number_at number_size block at ≤ before → None ≡ passed_of Compact block at before
  passes_low h = wrong_passes Compact block at before (λ t. let m = (step_says block Compact at before t).0 in omega arith)

  -- where the record ends, or that it is wrong
  abbrev End : Form → Option ℕ → Type 0
  End form end =
      end
      ≡ (when record_right block (record_start form at) (record_number form block at before) then Some (behind_in form block at) else None)

  pub passes_right : (form : Form) (end : ℕ) → before < record_number form block at before → End form (Some end)
      → Some (record { end = end; number = record_number form block at before }) ≡ passed_of form block at before
  passes_right form end h e =
      let (right, same) = some_was (record_right block (record_start form at) (record_number form block at before)) _ end (sym e) in
      when_true (step_right form block at before) _ _ _ (sym (says_step block form at before h) ∙ right) (rw same)

  pub passes_wrong : (form : Form) → before < record_number form block at before → End form None → None ≡ passed_of form block at before
  passes_wrong form h e =
      let wrong = none_was (record_right block (record_start form at) (record_number form block at before)) _ (sym e) in
      when_false (step_right form block at before) _ _ _ (sym (says_step block form at before h) ∙ wrong) refl

-- the loop over the records of a block: off, on, and the end
module _ (form : Form) (block : List ℕ) (at before left : ℕ) (whole : Option ℕ) (inv : whole ≡ last_or form block at before left) where
  abbrev rest_right : Bool
  rest_right = records_right form block (behind_in form block at) (record_number form block at before) (left - 1)

  abbrev rest_last : ℕ
  rest_last = last_from form block (behind_in form block at) (record_number form block at before) (left - 1)

  passed_step : 0 < left → whole ≡ (when step_right form block at before and rest_right then Some rest_last else None)
  unfolding records_right last_from
  passed_step h = let e : left ≡ suc (left - 1) = omega arith in inv ∙ ap (last_or form block at before) e

  pub passed_off : 0 < left → None ≡ passed_of form block at before → None ≡ whole
  passed_off h p =
      let w = none_was (step_right form block at before) _ (sym p) in
      sym (passed_step h ∙ sym (when_false (step_right form block at before and rest_right) _ _ _ (first_fails (step_right form block at before) _ w) refl))

  pub passed_on : (p : Passed) → 0 < left → Some p ≡ passed_of form block at before
      → (p.end ≤ records_end) × (whole ≡ last_or form block p.end p.number (left - 1))
  passed_on p h e =
      let (right, same) = some_was (step_right form block at before) _ p (sym e) in
      let (_, s) = step_says block form at before right in
      let most = s.ends in (
        rw (← same) most,
        passed_step h
            ∙ ap (λ (b : Bool). when b then Some rest_last else None) (sym (when_true (step_right form block at before) _ _ _ right refl))
            ∙ rw (← same),
      )

  pub passed_done : left ≤ 0 → (z : Bool) → z ≡ all_zero (take (records_end - at) (drop at block)) → whole ≡ (when z then Some before else None)
  unfolding records_right last_from
  passed_done h z g =
      let e : left ≡ 0 = omega arith in
      inv ∙ ap (last_or form block at before) e ∙ ap (λ (b : Bool). when b then Some before else None) (ap all_zero (drop_take at records_end block) ∙ sym g)

-- right records lie within the block, and their numbers rise
pub records_within : (form : Form) (block : List ℕ) (at before k : ℕ) → at ≤ records_end → records_right form block at before k ≡ true
    → (at + record_head * k ≤ records_end) × (before ≤ last_from form block at before k) × (1 ≤ k → before < last_from form block at before k)
unfolding records_right last_from
records_within form block at before zero h e = (omega arith, omega arith, λ s. absurd (omega arith))
records_within form block at before (suc k) h e =
    let (above, s) = step_says block form at before (both_first (step_right form block at before) _ e) in
    let ends = s.ends in
    let (fits, low, _) =
    records_within form block (behind_in form block at) (record_number form block at before) k ends (both_then (step_right form block at before) _ e) in
    let start = start_behind form at in
    (omega arith, omega arith, λ _. omega arith)
  where
    start_behind : (form : Form) (at : ℕ) → at ≤ record_start form at
    start_behind Log at = omega arith
    start_behind Compact at = omega arith

pub messages_length : (form : Form) (block : List ℕ) (at before k : ℕ) → length (messages_from form block at before k) ≡ k
unfolding messages_from
messages_length form block at before zero = refl
messages_length form block at before (suc k) = ap suc (messages_length form block (behind_in form block at) (record_number form block at before) k)

-- what the code asks of a block's number, count and records
module _ (t : Tail) (block : List ℕ) where
  abbrev content_last : Option ℕ
  content_last = when content_right t block then Some (last_of block) else None

  unsaid : content_right t block ≡ false → None ≡ content_last
  unsaid e = when_false (content_right t block) _ _ _ e refl

  pub content_none : records_in block < 1 → None ≡ content_last
  unfolding content_right
  content_none h = unsaid (first_fails (1 ≤? records_in block) _ (lt-leb 1 (records_in block) h))

  pub content_apart : follows t (first_at block) ≡ false → None ≡ content_last
  unfolding content_right
  content_apart f = unsaid (then_fails (1 ≤? records_in block) _ (first_fails (follows t (first_at block)) _ f))

  pub content_is : 1 ≤ records_in block → follows t (first_at block) ≡ true
      → last_or (form_of block) block records_at (first_at block - 1) (records_in block) ≡ content_last
  unfolding content_right
  content_is h f =
      ap (λ (b : Bool). when b then Some (last_of block) else None)
      (when_true (1 ≤? records_in block) _ _ _ (le-leb 1 (records_in block) h) (when_true (follows t (first_at block)) _ _ _ f refl))

  -- what it says
  pub content_says : content_right t block ≡ true → (1 ≤ last_of block) × (records_at + record_head * records_in block ≤ records_end)
  unfolding content_right
  content_says e =
      let some = leb-true 1 (records_in block) (both_first (1 ≤? records_in block) _ e) in
      let rest = both_then (1 ≤? records_in block) _ e in
      let (fits, _, above) =
      records_within (form_of block) block records_at (first_at block - 1) (records_in block) (omega arith) (both_then (follows t (first_at block)) _ rest) in
      let a = above some in
      (omega arith, fits)

  pub last_says : (last : ℕ) → Some last ≡ content_last → (content_right t block ≡ true) × (last_of block ≡ last)
  last_says last e = some_was (content_right t block) (last_of block) last (sym e)

  pub last_none : None ≡ content_last → content_right t block ≡ false
  last_none e = none_was (content_right t block) (last_of block) (sym e)

-- what reading a block answers: right, with its messages and the tail behind them, or wrong
abbrev pub found_one : List ℕ → Found
found_one block = counted (record { blocks = 1; messages = messages_of block; tail = tail_of block })

pub block_found : (block : List ℕ) → record { blocks = 1; messages = records_in block; tail = tail_with (form_of block) (last_of block) } ≡ found_one block
unfolding messages_of tail_of
block_found block = rw (messages_length (form_of block) block records_at (first_at block - 1) (records_in block))

module _ (t : Tail) (block : List ℕ) where
  pub next_right : length block ≡ block_size → form_right (form_of block) t block ≡ true → sum_right block ≡ true
      → (last : ℕ) → Some last ≡ (when content_right t block then Some (last_of block) else None)
      → Some (record { blocks = 1; messages = records_in block; tail = tail_with (form_of block) last }) ≡ next_of t block
  unfolding next_of block_right
  next_right n m s last e =
      let (c, same) = last_says t block last e in
      when_true (block_right t block) _ _ _
      (both_hold (length block =? block_size) _ (eq-eqb (length block) block_size n)
      (both_hold (form_right (form_of block) t block) _ m (both_hold (sum_right block) _ s c))) (rw (← same) (ap Some (block_found block)))

  pub next_short : (length block ≡ block_size → ⊥) → None ≡ next_of t block
  unfolding next_of block_right
  next_short n = when_false (block_right t block) _ _ _ (first_fails (length block =? block_size) _ (ne_eqb (length block) block_size n)) refl

  pub next_unmarked : form_right (form_of block) t block ≡ false → None ≡ next_of t block
  unfolding next_of block_right
  next_unmarked m =
      when_false (block_right t block) _ _ _ (then_fails (length block =? block_size) _ (first_fails (form_right (form_of block) t block) _ m)) refl

  pub next_summed : sum_right block ≡ false → None ≡ next_of t block
  unfolding next_of block_right
  next_summed s =
      when_false (block_right t block) _ _ _
      (then_fails (length block =? block_size) _ (then_fails (form_right (form_of block) t block) _ (first_fails (sum_right block) _ s))) refl

  pub next_other : None ≡ (when content_right t block then Some (last_of block) else None) → None ≡ next_of t block
  unfolding next_of block_right
  next_other e =
      when_false (block_right t block) _ _ _
      (then_fails (length block =? block_size) _
      (then_fails (form_right (form_of block) t block) _ (then_fails (sum_right block) _ (last_none t block e)))) refl

-- what was found, with so many blocks and messages before it
abbrev pub onto : ℕ → ℕ → Found → Found
onto k m f = record { blocks = k + f.blocks; messages = m + f.messages; tail = f.tail }

-- a right block's answer: what it says, and how many messages it can have
pub right_was_found : (t : Tail) (block : List ℕ) (f : Found) → next_of t block ≡ Some f
    → (block_right t block ≡ true) × (found_one block ≡ f) × (f.messages ≤ 71)
unfolding next_of block_right
right_was_found t block f e =
    let (right, q) = some_was (block_right t block) (found_one block) f e in
    let content = both_then (sum_right block) _ (both_then (form_right (form_of block) t block) _ (both_then (length block =? block_size) _ right)) in
    let (_, fits) = content_says t block content in
    let m = ap (λ (x : Found). x.messages) (block_found block ∙ q) in
    (right, q, omega arith)

wrong_was : (t : Tail) (block : List ℕ) → next_of t block ≡ None → block_right t block ≡ false
unfolding next_of
wrong_was t block e = none_was (block_right t block) (found_one block) e

-- the loop over the blocks of a journal: its start
pub blocks_start : (journal : List ℕ) (t : Tail) → t ≡ fresh_tail
    → counted (found_in journal) ≡ onto 0 0 (counted (found_from t (drop (0 * block_size) journal) (length journal / block_size - 0)))
unfolding found_in
blocks_start journal t e = rw (e, sub-zero, zero-add, zero-add)

-- a turn, and its end
module _ (journal : List ℕ) (t : Tail) (k m total : ℕ) (whole : Found)
    (inv : whole ≡ onto k m (counted (found_from t (drop (k * block_size) journal) (total - k)))) where
  abbrev here : List ℕ
  here = take block_size (drop (k * block_size) journal)

  abbrev rest : Reads
  rest = found_from (tail_of here) (drop block_size (drop (k * block_size) journal)) (total - k - 1)

  blocks_step : k < total → whole ≡ onto k m (counted (when block_right t here then joined 1 (messages_of here) rest else nothing t))
  unfolding found_from
  blocks_step h =
      let e : total - k ≡ suc (total - k - 1) = omega arith in
      inv ∙ ap (λ (x : ℕ). onto k m (counted (found_from t (drop (k * block_size) journal) x))) e

  pub blocks_on : k < total → (f : Found) → next_of t here ≡ Some f
      → (whole ≡ onto (k + 1) (m + f.messages) (counted (found_from f.tail (drop ((k + 1) * block_size) journal) (total - (k + 1))))) × (f.messages ≤ 71)
  blocks_on h f e =
      let (right, same, most) = right_was_found t here f e in
      let a : k + (1 + rest.blocks) ≡ k + 1 + rest.blocks = omega arith in
      let l = length-append (messages_of here) rest.messages in
      let b : m + length (messages_of here ++ rest.messages) ≡ m + length (messages_of here) + length rest.messages = omega arith in
      let d : (k + 1) * block_size ≡ k * block_size + block_size = omega arith in
      let n : total - (k + 1) ≡ total - k - 1 = omega arith in
      let p = blocks_step h ∙ ap (λ (r : Reads). onto k m (counted r)) (sym (when_true (block_right t here) _ (joined 1 (messages_of here) rest) _ right refl)) in
      (p ∙ rw (a, b) (rw (← same, d, n, ← (drop-drop block_size (k * block_size) journal))), most)

  ends_here : onto k m (counted (nothing t)) ≡ record { blocks = k; messages = m; tail = t }
  ends_here = rw (add-zero, add-zero)

  pub blocks_off : k < total → next_of t here ≡ None → record { blocks = k; messages = m; tail = t } ≡ whole
  blocks_off h e =
      sym
      (blocks_step h
      ∙ ap (λ (r : Reads). onto k m (counted r)) (sym (when_false (block_right t here) _ _ (nothing t) (wrong_was t here e) refl))
      ∙ ends_here)

  pub blocks_done : total ≤ k → record { blocks = k; messages = m; tail = t } ≡ whole
  unfolding found_from
  blocks_done h =
      let e : total - k ≡ 0 = omega arith in
      sym (inv ∙ ap (λ (x : ℕ). onto k m (counted (found_from t (drop (k * block_size) journal) x))) e ∙ ends_here)
