-- The rows of a journal's records, gathered one record at a time: the tables hold those of the records passed, and with what is left
-- they come to the whole. Assumes nothing.
use mathlib.Core.Path.{◌≡◌, refl, sym, ap, ◌∙◌}
use mathlib.Core.Logic.{◌⊎◌, inl, inr}
use mathlib.Core.Bool.{true, false}
use mathlib.Core.List.Memᴰ
use mathlib.Core.List.{List, [], ◌∷◌, map}
use Prim.Native.Nat.{ℕ, zero, suc, ◌+◌, ◌*◌, ◌-◌, ◌≤◌, ◌<◌}
use native.Mathlib.Omega.{arith}
use borrow.Author.Tests.{le-leb, lt-leb, leb-true}
use lib.ListN.{length, get_or, take, drop, length-drop}
use lib.Seq.{length-take-le, get_or-take, get_or-drop}
use Rattle.std.specs.Prelude.{Result, Ok, Err, Option, Some, None}
use Rattle.group.specs.declared.Refusal.{Refusal}
use Rattle.group.specs.Choice.{◌≤?◌, ◌=?◌}
use Rattle.group.proofs.Choice.{when_true, when_false, both_first, first_fails}
use Rattle.group.proofs.Lists.{when_elim}
use Rattle.message.specs.Order.{Ordered}
use Rattle.big_endian.specs.Number.{number_at}
use Rattle.journal.specs.Limits.{block_size, record_head}
use Rattle.journal.specs.Block.{length_at, message_at}
use Rattle.journal.specs.Laws.{StandsIn}
use Rattle.journal.specs.Walk.{entered_in, cursor_of, walk_of, walked, given_by}
use Rattle.journal.specs.declared.Cursor.{Cursor}
use Rattle.journal.specs.declared.Spot.{Spot}
use Rattle.journal.proofs.Given.{gives_standing}
use Rattle.plan.specs.Units.{sets, unit_of, placed, latest_from}
use Rattle.plan.specs.Laws.{◌among◌, Rises}
use Rattle.plan.specs.declared.Row.{Row}
use Rattle.plan.specs.Table.{row_for, Noted, length_before, AllStand, spotted, rows_with, NotedSpot, rows_in, Stood, Gathered}
use Rattle.plan.proofs.Placing.{placed_elim, placed_from, placed_rises}

abbrev row_with : ℕ → ℕ → Row
row_with unit start = record { unit = unit; start = start }

-- a record that stands in a journal, by where its payload does
module _ (journal : List ℕ) (s : Spot) (stands : StandsIn journal s) where
  abbrev start : ℕ
  start = s.start + record_head

  abbrev payload : List ℕ
  payload = (spotted journal s).payload

  pub length_before_lem : length_before journal start ≡ length_at journal s.start
  length_before_lem = let e : s.start + record_head - 2 ≡ s.start + 5 = omega arith in ap (number_at 2 journal) e

  payload_text_lem : payload ≡ take (length_at journal s.start) (drop start journal)
  unfolding message_at
  payload_text_lem = refl

  pub payload_length : length payload ≡ s.end - start
  payload_length =
      let d = length-drop start journal in
      let e = stands.ends in
      let w = stands.within in
      ap length payload_text_lem ∙ length-take-le (length_at journal s.start) (drop start journal) (omega arith) ∙ omega arith

  at_payload : (i : ℕ) → i < length payload → get_or payload i 0 ≡ get_or journal (start + i) 0
  at_payload i h =
      let n = payload_length in
      let e = stands.ends in
      ap (λ (l : List ℕ). get_or l i 0) payload_text_lem
      ∙ get_or-take (length_at journal s.start) (drop start journal) i 0 (omega arith) ∙ get_or-drop start journal i 0

  number_payload : (k i : ℕ) → i + k ≤ length payload → number_at k payload i ≡ number_at k journal (start + i)
  unfolding number_at
  number_payload zero i h = refl
  number_payload (suc k) i h =
      let e : start + (i + k) ≡ start + i + k = omega arith in
      rw (number_payload k i (omega arith), at_payload (i + k) (omega arith), e)

  -- whether it sets a unit
  pub spot_short : s.end - start < 3 → (3 ≤? s.end - start) ≡ sets (spotted journal s)
  unfolding sets
  spot_short h = let n = payload_length in lt-leb 3 (s.end - start) h ∙ sym (first_fails (3 ≤? length payload) _ (lt-leb 3 (length payload) (omega arith)))

  pub spot_begins : 3 ≤ s.end - start → (get_or journal start 0 =? 3) ≡ sets (spotted journal s)
  unfolding sets
  spot_begins h =
      let n = payload_length in
      let z : start + 0 ≡ start = omega arith in
      let e : get_or payload 0 0 ≡ get_or journal start 0 = at_payload 0 (omega arith) ∙ ap (λ (i : ℕ). get_or journal i 0) z in
      when_true (3 ≤? length payload) _ _ _ (le-leb 3 (length payload) (omega arith)) (ap (λ (b : ℕ). b =? 3) (sym e))

  pub spot_long : sets (spotted journal s) ≡ true → 3 ≤ s.end - start
  unfolding sets
  spot_long t = let n = payload_length in let h = leb-true 3 (length payload) (both_first (3 ≤? length payload) _ t) in omega arith

  pub spot_unit : 3 ≤ s.end - start → unit_of (spotted journal s) ≡ number_at 2 journal (start + 1)
  unfolding unit_of
  spot_unit h = let n = payload_length in number_payload 2 1 (omega arith)

  -- a record that sets a unit is a row that stands in the journal
  spot_stood : sets (spotted journal s) ≡ true → Stood journal (spotted journal s)
  unfolding sets
  spot_stood t =
      let n = payload_length in
      let l = length_before_lem in
      let e = stands.ends in
      let w = stands.within in
      let h = leb-true 3 (length payload) (both_first (3 ≤? length payload) _ t) in
      record {
        stands = record { low = omega arith; long = omega arith; ends = omega arith };
        payload_is = payload_text_lem ∙ ap (λ (i : ℕ). take i (drop start journal)) (sym l);
      }

  -- noting it
  pub spot_unnoted : (table : List Row) → sets (spotted journal s) ≡ false → NotedSpot journal s table (Ok tt) table
  spot_unnoted table f =
      record { held = λ rows r h. rw (sym (when_false (sets (spotted journal s)) rows (placed (spotted journal s) rows) rows f refl)) h }

  pub spot_noted : (table table' : List Row) (r : Result (Unit {0}) Refusal) (unit : ℕ) → sets (spotted journal s) ≡ true → unit_of (spotted journal s) ≡ unit
      → Noted table (record { unit = unit; start = start }) r table' → NotedSpot journal s table r table'
  spot_noted table table' r unit t u n =
      record {
        held = λ rows rise h.
            rw (sym (when_true (sets (spotted journal s)) (placed (spotted journal s) rows) (placed (spotted journal s) rows) rows t refl))
            (n.held rows (spotted journal s) rise h (ap (λ (x : ℕ). row_with x start) (sym u)));
      }

  -- what holds of rows holds with it
  rows_rise : (rows : List Ordered) → Rises unit_of rows → Rises unit_of (rows_with journal s rows)
  rows_rise rows r = when_elim (Rises unit_of) (sets (spotted journal s)) (λ t. placed_rises (spotted journal s) rows r) (λ t. r)

  rows_stood : (rows : List Ordered) → ((y : Ordered) → y among rows → Stood journal y) → (y : Ordered) → y among rows_with journal s rows → Stood journal y
  rows_stood rows all =
      when_elim (λ (l : List Ordered). (y : Ordered) → y among l → Stood journal y) (sets (spotted journal s))
      (λ t y i. go t y (placed_from (spotted journal s) rows y i)) (λ t. all)
    where
      go : sets (spotted journal s) ≡ true → (y : Ordered) → (y ≡ spotted journal s) ⊎ (y among rows) → Stood journal y
      go t y (inl e) = rw e (spot_stood t)
      go t y (inr i) = all y i

-- rows never get fewer
placed_length : (m : Ordered) (rows : List Ordered) → length rows ≤ length (placed m rows)
unfolding placed
placed_length m [] = omega arith
placed_length m (row ∷ rest) =
    let h = placed_length m rest in
    placed_elim m row rest (λ l. length (row ∷ rest) ≤ length l) (λ q. omega arith) (λ q. omega arith) (λ q. omega arith)

latest_length : (rows ms : List Ordered) → length rows ≤ length (latest_from rows ms)
unfolding latest_from
latest_length rows [] = omega arith
latest_length rows (m ∷ ms) =
    when_elim (λ (l : List Ordered). length rows ≤ length (latest_from l ms)) (sets m)
    (λ t. let a = placed_length m rows in let b = latest_length (placed m rows) ms in omega arith)
    (λ t. latest_length rows ms)

-- what a loop over the records of a journal has come to
pub record Progress (journal : List ℕ) (whole : List Ordered) (table : List Row) (cursor : Cursor) (left : ℕ) : Type 0 where
  pub within : cursor.base + cursor.blocks * block_size ≤ length journal
  pub rows : List Ordered
  pub rise : Rises unit_of rows
  pub stood : (y : Ordered) → y among rows → Stood journal y
  pub held : table ≡ map row_for rows
  pub rest : latest_from rows (map (spotted journal) (given_by left cursor journal)) ≡ whole

pub given_next : (journal : List ℕ) (c next : Cursor) (s : Spot) (left : ℕ) → 0 < left → walk_of c journal ≡ Some (s, next)
    → given_by left c journal ≡ s ∷ given_by (left - 1) next journal
unfolding given_by walked
given_next journal c next s left h e =
    let l : left ≡ suc (left - 1) = omega arith in
    ap (λ (k : ℕ). given_by k c journal) l ∙ ap (λ (w : Option (Spot × Cursor)). walked w (λ n. given_by (left - 1) n journal)) e

pub given_end : (journal : List ℕ) (c : Cursor) (left : ℕ) → walk_of c journal ≡ None → given_by left c journal ≡ []
unfolding given_by walked
given_end journal c zero e = refl
given_end journal c (suc k) e = ap (λ (w : Option (Spot × Cursor)). walked w (λ n. given_by k n journal)) e

-- the rows that stand, by index
pub each_at : (journal : List ℕ) (rows : List Ordered) → ((y : Ordered) → y among rows → Stood journal y) → AllStand journal (map (λ (m : Ordered). m.number) rows)
each_at journal [] all i h = absurd (omega arith)
each_at journal (m ∷ rows) all zero h = (all m (Memᴰ.head refl)).stands
each_at journal (m ∷ rows) all (suc i) h = each_at journal rows (λ y k. all y (Memᴰ.tail k)) i (omega arith)

-- a cursor over the right blocks of a journal stands within it
pub cursor_within : (journal : List ℕ) (blocks : ℕ) (cursor : Cursor) → cursor ≡ cursor_of journal blocks → blocks * block_size ≤ length journal
    → cursor.base + cursor.blocks * block_size ≤ length journal
unfolding cursor_of entered_in
cursor_within journal blocks cursor e h =
    rw e (when_elim (λ (c : Cursor). c.base + c.blocks * block_size ≤ length journal) (blocks =? 0) (λ t. omega arith) (λ t. omega arith))

pub progress_start : (journal : List ℕ) (blocks messages left : ℕ) (table : List Row) (cursor : Cursor) → left ≡ messages → cursor ≡ cursor_of journal blocks
    → blocks * block_size ≤ length journal → table ≡ [] → Progress journal (rows_in journal blocks messages) table cursor left
unfolding Rises
progress_start journal blocks messages left table cursor l e fits t =
    record {
      within = cursor_within journal blocks cursor e fits;
      rows = [];
      rise = tt;
      stood = λ y i. absurd (Memᴰ.not-nil i);
      held = t;
      rest = rw (e, l) refl;
    }

module _ (journal : List ℕ) (whole : List Ordered) (table : List Row) (cursor : Cursor) (left : ℕ) (p : Progress journal whole table cursor left) where
  pub progress_stands : (s : Spot) (next : Cursor) → walk_of cursor journal ≡ Some (s, next) → StandsIn journal s
  progress_stands s next e = (gives_standing journal cursor next s p.within e).0

  rest_with : (s : Spot) (next : Cursor) → 0 < left → walk_of cursor journal ≡ Some (s, next)
      → latest_from (rows_with journal s p.rows) (map (spotted journal) (given_by (left - 1) next journal)) ≡ whole
  unfolding latest_from
  rest_with s next h e =
      sym (ap (λ (l : List Spot). latest_from p.rows (map (spotted journal) l)) (given_next journal cursor next s left h e)) ∙ p.rest

  pub progress_on : (s : Spot) (next : Cursor) (u : Unit {0}) (table' : List Row) (left' : ℕ) → left ≡ left' + 1 → walk_of cursor journal ≡ Some (s, next)
      → NotedSpot journal s table (Ok u) table' → Progress journal whole table' next left'
  progress_on s next u table' left' h e n =
      let (stands, within) = gives_standing journal cursor next s p.within e in
      let l : left - 1 ≡ left' = omega arith in
      record {
        within = within;
        rows = rows_with journal s p.rows;
        rise = rows_rise journal s stands p.rows p.rise;
        stood = rows_stood journal s stands p.rows p.stood;
        held = n.held p.rows p.rise p.held;
        rest = rw l at (rest_with s next (omega arith) e);
      }

  pub progress_many : (s : Spot) (next : Cursor) (refusal : Refusal) (table' : List Row) → 0 < left → walk_of cursor journal ≡ Some (s, next)
      → NotedSpot journal s table (Err refusal) table' → Gathered journal whole (Err refusal) table'
  progress_many s next refusal table' h e n =
      let (q, a) = n.held p.rows p.rise p.held in
      let b = latest_length (rows_with journal s p.rows) (map (spotted journal) (given_by (left - 1) next journal)) in
      let c = ap length (rest_with s next h e) in
      record { held = (q, omega arith) }

  ended : p.rows ≡ whole → (u : Unit {0}) → Gathered journal whole (Ok u) table
  ended e u = record { held = (rw (← e) p.held, rw (← e) p.stood) }

  pub progress_end : walk_of cursor journal ≡ None → (u : Unit {0}) → Gathered journal whole (Ok u) table
  unfolding latest_from
  progress_end e = ended (sym (ap (λ (l : List Spot). latest_from p.rows (map (spotted journal) l)) (given_end journal cursor left e)) ∙ p.rest)

  pub progress_done : left ≡ 0 → (u : Unit {0}) → Gathered journal whole (Ok u) table
  unfolding latest_from given_by
  progress_done z = ended (sym (ap (λ (k : ℕ). latest_from p.rows (map (spotted journal) (given_by k cursor journal))) z) ∙ p.rest)
