-- A cursor gives the records of the right blocks of a journal, one by one: what the code tests is what the definitions test, and
-- the messages of what is given are those that reading finds. Assumes nothing.
use Rattle.std.specs.Prelude.{Some, None}
use mathlib.Core.Path.{◌≡◌, refl, sym}
use mathlib.Core.List.{List}
use Prim.Native.Nat.{ℕ, ◌+◌, ◌-◌, ◌≤◌, ◌<◌}
use native.Mathlib.Omega.{arith}
use borrow.Author.Tests.{lt-ltb, le-ltb, eq-eqb, ne_eqb}
use Rattle.group.specs.Choice.{◌<?◌, ◌=?◌}
use Rattle.group.proofs.Choice.{when_true, when_false}
use Rattle.journal.specs.Limits.{block_size, records_at, records_end, record_head}
use Rattle.journal.specs.Block.{record_start, step_right}
use Rattle.journal.specs.Walk.{passed_of, block_at, entered_in, cursor_of, given_of, walk_of}
use Rattle.journal.specs.declared.Cursor.{Cursor}
use Rattle.journal.specs.declared.Form.{Form}
use Rattle.journal.specs.declared.Form.TheVariants.{Log, Compact}
use Rattle.journal.specs.declared.Passed.{Passed}
use Rattle.journal.proofs.Records.{step_says}
use Rattle.journal.proofs.Walking.{some_was, none_was}

pub start_behind : (form : Form) (at : ℕ) → at ≤ record_start form at
start_behind Log at = omega arith
start_behind Compact at = omega arith

-- the record before which a cursor stands: wrong, or the next
module _ (c : Cursor) (block : List ℕ) where
  pub given_end : None ≡ passed_of c.form block c.at c.before → None ≡ given_of c block
  unfolding given_of
  given_end p =
      when_false (step_right c.form block c.at c.before) _ _ _ (none_was (step_right c.form block c.at c.before) _ (sym p)) refl

  module _ (p : Passed) (e : Some p ≡ passed_of c.form block c.at c.before) where
    pub given_bounds : (c.at + record_head ≤ records_end) × (record_start c.form c.at + record_head ≤ records_end) × (p.end ≤ records_end)
    given_bounds =
        let (right, same) = some_was (step_right c.form block c.at c.before) _ p (sym e) in
        let s = (step_says block c.form c.at c.before right).1 in
        let b = s.begins in
        let e = s.ends in
        let k = start_behind c.form c.at in
        (omega arith, b, rw (← same) e)

    pub given_next : (left : ℕ) → left ≡ c.left - 1
        → Some (
          record { number = record { 0 = p.number }; start = c.base + record_start c.form c.at; end = c.base + p.end },
          record { base = c.base; blocks = c.blocks; form = c.form; at = p.end; before = p.number; left = left },
        )
        ≡ given_of c block
    unfolding given_of
    given_next left l =
        let (right, same) = some_was (step_right c.form block c.at c.before) _ p (sym e) in
        when_true (step_right c.form block c.at c.before) _ _ _ right (rw (l, ← same))

-- what the code tests of a cursor
module _ (c : Cursor) (journal : List ℕ) where
  pub walk_none : c.blocks < 1 → None ≡ walk_of c journal
  unfolding walk_of
  walk_none h = when_true (c.blocks <? 1) _ _ _ (lt-ltb c.blocks 1 h) refl

  pub walk_here : 1 ≤ c.blocks → 0 < c.left → given_of c (block_at journal c.base) ≡ walk_of c journal
  unfolding walk_of
  walk_here h k = when_false (c.blocks <? 1) _ _ _ (le-ltb c.blocks 1 h) (when_true (0 <? c.left) _ _ _ (lt-ltb 0 c.left k) refl)

  pub walk_last : 1 ≤ c.blocks → c.left ≤ 0 → c.blocks < 2 → None ≡ walk_of c journal
  unfolding walk_of
  walk_last h k l =
      when_false (c.blocks <? 1) _ _ _ (le-ltb c.blocks 1 h)
      (when_false (0 <? c.left) _ _ _ (le-ltb 0 c.left k) (when_true (c.blocks <? 2) _ _ _ (lt-ltb c.blocks 2 l) refl))

  pub walk_on : c.left ≤ 0 → 2 ≤ c.blocks
      → given_of (entered_in (block_at journal (c.base + block_size)) (c.base + block_size) (c.blocks - 1)) (block_at journal (c.base + block_size)) ≡ walk_of c journal
  unfolding walk_of
  walk_on k l =
      when_false (c.blocks <? 1) _ _ _ (le-ltb c.blocks 1 (omega arith))
      (when_false (0 <? c.left) _ _ _ (le-ltb 0 c.left k) (when_false (c.blocks <? 2) _ _ _ (le-ltb c.blocks 2 l) refl))

pub cursor_none : (journal : List ℕ) (blocks : ℕ) → blocks ≡ 0
    → record { base = 0; blocks = 0; form = Log; at = records_at; before = 0; left = 0 } ≡ cursor_of journal blocks
unfolding cursor_of
cursor_none journal blocks e = when_true (blocks =? 0) _ _ _ (eq-eqb blocks 0 e) refl

pub cursor_first : (journal : List ℕ) (blocks : ℕ) → (blocks ≡ 0 → ⊥) → entered_in (block_at journal 0) 0 blocks ≡ cursor_of journal blocks
unfolding cursor_of
cursor_first journal blocks n = when_false (blocks =? 0) _ _ _ (ne_eqb blocks 0 n) refl
