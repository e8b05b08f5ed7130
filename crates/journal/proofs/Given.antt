-- The messages of the records that a cursor gives are those that reading finds, block by block. Assumes nothing.
use Rattle.std.specs.Prelude.{Option, Some, None}
use mathlib.Core.Path.{◌≡◌, refl, sym, ap, ◌∙◌}
use mathlib.Core.Bool.{true}
use mathlib.Core.List.{List, [], ◌∷◌, ◌++◌, map}
use Prim.Native.Nat.{ℕ, zero, suc, ◌+◌, ◌-◌, ◌*◌, ◌/◌, ◌≤◌, ◌<◌}
use native.Mathlib.Omega.{arith}
use borrow.Author.Tests.{ltb-false}
use lib.ListN.{length, get_or, take, drop, length-append}
use lib.Seq.{get_or-take, get_or-drop, take-take, drop-drop}
use Rattle.group.specs.Choice.{◌<?◌}
use Rattle.group.proofs.Choice.{when_true}
use Rattle.group.proofs.Lists.{when_elim, le_or, eq_or}
use Rattle.message.specs.Order.{Ordered}
use Rattle.big_endian.specs.Number.{number_at}
use Rattle.journal.specs.Limits.{block_size, records_at, records_end, record_head}
use Rattle.journal.specs.Block.{first_at, records_in, length_at, record_start, behind_in, record_number, step_right, records_right, form_of, block_right, message_at, messages_from, messages_of, tail_of}
use Rattle.journal.specs.Read.{Reads, fresh_tail, joined, found_from, found_in}
use Rattle.journal.specs.Walk.{block_at, entered_in, spot_of, moved_of, given_of, walk_of, walked, given_by, message_on}
use Rattle.journal.specs.Laws.{GivesAll, StandsIn, GivesStanding, GivesForward}
use Rattle.journal.specs.declared.Cursor.{Cursor}
use Rattle.journal.specs.declared.Form.{Form}
use Rattle.journal.specs.declared.Spot.{Spot}
use Rattle.journal.specs.declared.Tail.{Tail}
use Rattle.journal.proofs.Lists.{drop_take}
use Rattle.journal.proofs.Records.{Says, step_says}
use Rattle.journal.proofs.Only.{block_says}
use Rattle.journal.proofs.Walking.{some_was, messages_length}
use Rattle.journal.proofs.Cursors.{start_behind, walk_here, walk_last, walk_on, cursor_first}
use Rattle.group.proofs.Choice.{both_first, both_then}

-- what stands in a block stands in the journal, as far behind the block's begin
module _ (journal : List ℕ) (base : ℕ) where
  pub byte_here : (i : ℕ) → i < block_size → get_or (block_at journal base) i 0 ≡ get_or journal (base + i) 0
  byte_here i h = get_or-take block_size (drop base journal) i 0 h ∙ get_or-drop base journal i 0

  pub number_here : (k i : ℕ) → i + k ≤ block_size → number_at k (block_at journal base) i ≡ number_at k journal (base + i)
  unfolding number_at
  number_here zero i h = refl
  number_here (suc k) i h =
      let e : base + (i + k) ≡ base + i + k = omega arith in
      rw (number_here k i (omega arith), byte_here (i + k) (omega arith), e)

  pub length_here : (at : ℕ) → at + record_head ≤ records_end → length_at (block_at journal base) at ≡ length_at journal (base + at)
  length_here at h = let e : base + (at + 5) ≡ base + at + 5 = omega arith in number_here 2 (at + 5) (omega arith) ∙ rw e

  pub message_here : (at number : ℕ) → Says (block_at journal base) at number → message_at (block_at journal base) at number ≡ message_at journal (base + at) number
  unfolding message_at
  message_here at number s =
      let b = s.begins in
      let ends = s.ends in
      let e1 : base + (at + 1) ≡ base + at + 1 = omega arith in
      let e7 : base + (at + record_head) ≡ base + at + record_head = omega arith in
      let l = length_here at b in
      let p : take (length_at (block_at journal base) at) (drop (at + record_head) (block_at journal base)) ≡ take (length_at journal (base + at)) (drop (base + at + record_head) journal) =
      ap (take (length_at (block_at journal base) at)) (drop_take (at + record_head) block_size (drop base journal))
      ∙ take-take (length_at (block_at journal base) at) (block_size - (at + record_head)) (drop (at + record_head) (drop base journal)) (omega arith)
      ∙ ap (take (length_at (block_at journal base) at)) (drop-drop (at + record_head) base journal ∙ ap (λ (i : ℕ). drop i journal) e7)
      ∙ ap (λ (i : ℕ). take i (drop (base + at + record_head) journal)) l in
      rw (byte_here at (omega arith), number_here 4 (at + 1) (omega arith), e1, p)

-- the records of a block
module _ (journal : List ℕ) (base blocks : ℕ) (form : Form) (some : 1 ≤ blocks) where
  abbrev here : List ℕ
  here = block_at journal base

  abbrev standing : ℕ → ℕ → ℕ → Cursor
  standing at before left = record { base = base; blocks = blocks; form = form; at = at; before = before; left = left }

  step_given : (at before k m : ℕ) → step_right form here at before ≡ true
      → given_by (suc m) (standing at before (suc k)) journal
      ≡ spot_of (standing at before (suc k)) here ∷ given_by m (standing (behind_in form here at) (record_number form here at before) k) journal
  unfolding given_by walked given_of
  step_given at before k m right =
      let c = standing at before (suc k) in
      let e : suc k - 1 ≡ k = omega arith in
      let w : walk_of c journal ≡ Some (spot_of c here, standing (behind_in form here at) (record_number form here at before) k) =
      sym (walk_here c journal some (omega arith))
      ∙ sym (when_true (step_right form here at before) _ (Some (spot_of c here, moved_of c here)) None right refl)
      ∙ ap (λ (n : ℕ). Some (spot_of c here, standing (behind_in form here at) (record_number form here at before) n)) e in
      ap (λ (x : Option (Spot × Cursor)). walked x (λ next. given_by m next journal)) w

  block_given : (at before k n m : ℕ) → m ≡ k + n → records_right form here at before k ≡ true
      → (at' : ℕ) × (before' : ℕ)
      × (map (message_on journal) (given_by m (standing at before k) journal)
      ≡ messages_from form here at before k ++ map (message_on journal) (given_by n (standing at' before' 0) journal))
  unfolding records_right messages_from
  block_given at before zero n m e right = let z : m ≡ n = omega arith in (at, before, rw z refl)
  block_given at before (suc k) n m e right =
      let z : m ≡ suc (k + n) = omega arith in
      let one = both_first (step_right form here at before) _ right in
      let number = record_number form here at before in
      let (_, s) = step_says here form at before one in
      let (at', before', rest) = block_given (behind_in form here at) number k n (k + n) refl (both_then (step_right form here at before) _ right) in
      let first : message_at journal (base + record_start form at) number ≡ message_at here (record_start form at) number =
      sym (message_here journal base (record_start form at) number s) in (
        at',
        before',
        ap (λ (x : ℕ). map (message_on journal) (given_by x (standing at before (suc k)) journal)) z
            ∙ ap (map (message_on journal)) (step_given at before k (k + n) one)
            ∙ ap (λ (x : Ordered). x ∷ map (message_on journal) (given_by (k + n) (standing (behind_in form here at) number k) journal)) first
            ∙ ap (λ (x : List Ordered). message_at here (record_start form at) number ∷ x) rest,
      )

  -- behind the last record the next block is entered, if there is one
  ended_last : (at before n : ℕ) → blocks < 2 → given_by n (standing at before 0) journal ≡ []
  unfolding given_by walked
  ended_last at before zero h = refl
  ended_last at before (suc n) h =
      ap (λ (x : Option (Spot × Cursor)). walked x (λ next. given_by n next journal)) (sym (walk_last (standing at before 0) journal some (omega arith) h))

  ended_on : (at before n : ℕ) → 2 ≤ blocks → 1 ≤ records_in (block_at journal (base + block_size))
      → given_by n (standing at before 0) journal
      ≡ given_by n (entered_in (block_at journal (base + block_size)) (base + block_size) (blocks - 1)) journal
  unfolding given_by entered_in
  ended_on at before zero h r = refl
  ended_on at before (suc n) h r =
      ap (λ (x : Option (Spot × Cursor)). walked x (λ next. given_by n next journal))
      (sym (walk_on (standing at before 0) journal (omega arith) h)
      ∙ walk_here (entered_in (block_at journal (base + block_size)) (base + block_size) (blocks - 1)) journal (omega arith) r)

-- what was found begins with a right block, or is nothing
found_first : (t : Tail) (journal : List ℕ) (k : ℕ) → 1 ≤ (found_from t journal k).blocks → block_right t (take block_size journal) ≡ true
unfolding found_from
found_first t journal zero h = absurd (omega arith)
found_first t journal (suc k) h =
    (when_elim (λ (r : Reads). 1 ≤ r.blocks → block_right t (take block_size journal) ≡ true) (block_right t (take block_size journal)) (λ e l. e) (λ e l. absurd (omega arith))) h

found_none : (t : Tail) (journal : List ℕ) (k : ℕ) → (found_from t journal k).blocks < 1 → (found_from t journal k).messages ≡ []
unfolding found_from
found_none t journal zero h = refl
found_none t journal (suc k) h =
    (when_elim (λ (r : Reads). r.blocks < 1 → r.messages ≡ []) (block_right t (take block_size journal)) (λ e l. absurd (omega arith)) (λ e l. refl)) h

abbrev Given : List ℕ → ℕ → Reads → Type 0
Given journal base r =
    map (message_on journal) (given_by (length r.messages) (entered_in (block_at journal base) base r.blocks) journal) ≡ r.messages

-- a right block before what was found behind it
right_given : (journal : List ℕ) (t u : Tail) (base k : ℕ) → block_right t (block_at journal base) ≡ true
    → Given journal (base + block_size) (found_from u (drop (base + block_size) journal) k)
    → Given journal base (joined 1 (messages_of (block_at journal base)) (found_from u (drop (base + block_size) journal) k))
unfolding messages_of entered_in
right_given journal t u base k e rest =
    let block = block_at journal base in
    let form = form_of block in
    let first = first_at block - 1 in
    let r = found_from u (drop (base + block_size) journal) k in
    let ms = messages_from form block records_at first (records_in block) in
    let m = length (ms ++ r.messages) in
    let n = length r.messages in
    let a = length-append ms r.messages in
    let l = messages_length form block records_at first (records_in block) in
    let (at, before, same) = block_given journal base (1 + r.blocks) form (omega arith) records_at first (records_in block) n m (omega arith) (block_says t block e).records in
    same ∙ ap (λ (x : List Ordered). ms ++ x)
    (le_or 1 r.blocks
    (λ h.
    let b : 1 + r.blocks - 1 ≡ r.blocks = omega arith in
    ap (map (message_on journal))
    (ended_on journal base (1 + r.blocks) form (omega arith) at before n (omega arith)
    (block_says u (block_at journal (base + block_size)) (found_first u (drop (base + block_size) journal) k h)).some
    ∙ ap (λ (x : ℕ). given_by n (entered_in (block_at journal (base + block_size)) (base + block_size) x) journal) b)
    ∙ rest)
    (λ h.
    ap (map (message_on journal)) (ended_last journal base (1 + r.blocks) form (omega arith) at before n (omega arith))
    ∙ sym (found_none u (drop (base + block_size) journal) k h)))

found_given : (journal : List ℕ) (t : Tail) (base k : ℕ) → Given journal base (found_from t (drop base journal) k)
unfolding found_from given_by
found_given journal t base zero = refl
found_given journal t base (suc k) =
    let u = tail_of (block_at journal base) in
    when_elim (Given journal base) (block_right t (block_at journal base))
    (λ e. rw (drop-drop block_size base journal) (right_given journal t u base k e (found_given journal u (base + block_size) k)))
    (λ e. refl)

-- a cursor before the first block
pub gives_all : GivesAll
unfolding found_in given_by
gives_all journal =
    let k = length journal / block_size in
    let r = found_from fresh_tail journal k in
    eq_or r.blocks 0
    (λ z.
    let none = found_none fresh_tail journal k (omega arith) in
    rw none)
    (λ n.
    ap (λ (c : Cursor). map (message_on journal) (given_by (length r.messages) c journal)) (sym (cursor_first journal r.blocks n))
    ∙ found_given journal fresh_tail 0 k)

-- what is given stands in the journal
given_stands : (journal : List ℕ) (c next : Cursor) (s : Spot) → c.base + block_size ≤ length journal → given_of c (block_at journal c.base) ≡ Some (s, next)
    → StandsIn journal s × (next.base ≡ c.base) × (next.blocks ≡ c.blocks)
unfolding given_of
given_stands journal c next s fits e =
    let block = block_at journal c.base in
    let (right, same) = some_was (step_right c.form block c.at c.before) (spot_of c block, moved_of c block) (s, next) e in
    let f : spot_of c block ≡ s = ap (λ (x : Spot × Cursor). x.0) same in
    let g : moved_of c block ≡ next = ap (λ (x : Spot × Cursor). x.1) same in
    let (_, says) = step_says block c.form c.at c.before right in
    let begins = says.begins in
    let size = says.size in
    let ends = says.ends in
    let l = length_here journal c.base (record_start c.form c.at) begins in (
      rw (← f) (record { ends = omega arith; within = omega arith; short = rw (← l) size }),
      ap (λ (x : Cursor). x.base) (sym g),
      ap (λ (x : Cursor). x.blocks) (sym g),
    )

pub gives_standing : GivesStanding
unfolding walk_of entered_in
gives_standing journal c next s fits e =
    (when_elim (λ (w : Option (Spot × Cursor)). w ≡ Some (s, next) → StandsIn journal s × (next.base + next.blocks * block_size ≤ length journal)) (c.blocks <? 1)
    (λ t e. absurd (let y : ◌≡◌ {A = ℕ} 0 1 = cc in omega arith))
    (λ t. let some = ltb-false c.blocks 1 t in when_elim (λ (w : Option (Spot × Cursor)). w ≡ Some (s, next) → StandsIn journal s × (next.base + next.blocks * block_size ≤ length journal)) (0 <? c.left)
    (λ t e. let (stands, b, k) = given_stands journal c next s (omega arith) e in (stands, omega arith))
    (λ t. when_elim (λ (w : Option (Spot × Cursor)). w ≡ Some (s, next) → StandsIn journal s × (next.base + next.blocks * block_size ≤ length journal)) (c.blocks <? 2)
    (λ t e. absurd (let y : ◌≡◌ {A = ℕ} 0 1 = cc in omega arith))
    (λ t e.
    let two = ltb-false c.blocks 2 t in
    let entered = entered_in (block_at journal (c.base + block_size)) (c.base + block_size) (c.blocks - 1) in
    let (stands, b, k) = given_stands journal entered next s (omega arith) e in
    (stands, omega arith))))) e

-- and the cursor goes forward
given_forward : (c next : Cursor) (s : Spot) (block : List ℕ) → given_of c block ≡ Some (s, next)
    → (c.base + c.at ≤ s.start) × (s.start + record_head ≤ next.base + next.at) × (next.at ≤ records_end)
unfolding given_of
given_forward c next s block e =
    let (right, same) = some_was (step_right c.form block c.at c.before) (spot_of c block, moved_of c block) (s, next) e in
    let f : spot_of c block ≡ s = ap (λ (x : Spot × Cursor). x.0) same in
    let g : moved_of c block ≡ next = ap (λ (x : Spot × Cursor). x.1) same in
    let (_, says) = step_says block c.form c.at c.before right in
    let ends = says.ends in
    let behind = start_behind c.form c.at in
    rw (← f, ← g) (omega arith, omega arith, omega arith)

pub gives_forward : GivesForward
unfolding walk_of entered_in
gives_forward journal c next s low e =
    (when_elim (λ (w : Option (Spot × Cursor)). w ≡ Some (s, next) → (c.base + c.at ≤ s.start) × (s.start + record_head ≤ next.base + next.at) × (next.at ≤ records_end)) (c.blocks <? 1)
    (λ t e. absurd (let y : ◌≡◌ {A = ℕ} 0 1 = cc in omega arith))
    (λ t. when_elim (λ (w : Option (Spot × Cursor)). w ≡ Some (s, next) → (c.base + c.at ≤ s.start) × (s.start + record_head ≤ next.base + next.at) × (next.at ≤ records_end)) (0 <? c.left)
    (λ t e. given_forward c next s (block_at journal c.base) e)
    (λ t. when_elim (λ (w : Option (Spot × Cursor)). w ≡ Some (s, next) → (c.base + c.at ≤ s.start) × (s.start + record_head ≤ next.base + next.at) × (next.at ≤ records_end)) (c.blocks <? 2)
    (λ t e. absurd (let y : ◌≡◌ {A = ℕ} 0 1 = cc in omega arith))
    (λ t e.
    let entered = entered_in (block_at journal (c.base + block_size)) (c.base + block_size) (c.blocks - 1) in
    let (a, b, d) = given_forward entered next s (block_at journal (c.base + block_size)) e in
    (omega arith, b, d))))) e
