-- A record that a cursor gave is found again by walking its block alone: the same steps lead there, and no record before it begins
-- where it does. Assumes nothing.
use Rattle.std.specs.Prelude.{Option, Some, None}
use mathlib.Core.Path.{◌≡◌, refl, sym, ap, subst, ◌∙◌}
use mathlib.Core.Bool.{true}
use mathlib.Core.List.Memᴰ
use mathlib.Core.List.{List, ◌∷◌, Memᴰ}
use Prim.Native.Nat.{ℕ, zero, suc, ◌+◌, ◌-◌, ◌*◌, ◌/◌, ◌≤◌, ◌<◌}
use native.Mathlib.Omega.{arith}
use borrow.Author.Tests.{ltb-false}
use lib.ListN.{length}
use Rattle.group.specs.Choice.{◌<?◌}
use Rattle.group.proofs.Choice.{when_true, when_eq, when_ne}
use Rattle.group.proofs.Lists.{when_elim, eq_or}
use Rattle.journal.specs.Limits.{block_size, records_at, records_end, record_head}
use Rattle.journal.specs.Block.{record_start, behind_in, record_number, step_right}
use Rattle.journal.specs.Walk.{block_at, entered_in, alone_in, alone_at, spot_of, moved_of, given_of, walk_of, walked, given_by, spot_with, spot_at}
use Rattle.journal.specs.Laws.{StandsIn, GivesAgain}
use Rattle.journal.specs.declared.Cursor.{Cursor}
use Rattle.journal.specs.declared.Spot.{Spot}
use Rattle.journal.proofs.Records.{step_says}
use Rattle.journal.proofs.Walking.{some_was}
use Rattle.journal.proofs.Cursors.{start_behind, walk_none, walk_here, cursor_none, cursor_first}
use Rattle.journal.proofs.Given.{gives_standing}

module _ (journal : List ℕ) where
  -- a cursor's place in its block, for the records of that block alone, behind k of them
  abbrev alone : Cursor → ℕ → Cursor
  alone c k = record { base = c.base; blocks = 1; form = c.form; at = c.at; before = c.before; left = block_size - k }

  -- the walk over the block alone comes to the cursor's place, and meets no record from there on before
  record Reached (c : Cursor) : Type 0 where
    k : ℕ
    few : record_head * k + records_at ≤ c.at
    low : c.at ≤ records_end
    whole : c.base / block_size * block_size ≡ c.base
    same : (m start : ℕ) → c.base + c.at + record_head ≤ start
        → spot_with start (given_by (k + m) (alone_at journal c.base) journal) ≡ spot_with start (given_by m (alone c k) journal)

  reached_entered : (base blocks : ℕ) → base / block_size * block_size ≡ base → Reached (entered_in (block_at journal base) base blocks)
  unfolding entered_in alone_in
  reached_entered base blocks h =
      record {
        k = 0;
        few = omega arith;
        low = omega arith;
        whole = h;
        same = λ m start l. let z : 0 + m ≡ m = omega arith in rw z refl;
      }

  -- a step of the walk
  module _ (c : Cursor) (r : Reached c) (right : step_right c.form (block_at journal c.base) c.at c.before ≡ true) where
    abbrev block : List ℕ
    block = block_at journal c.base

    abbrev here : Spot
    here = spot_of c block

    abbrev next : Cursor
    next = moved_of c block

    bounds : (c.at ≤ record_start c.form c.at) × (record_start c.form c.at + record_head ≤ behind_in c.form block c.at) × (behind_in c.form block c.at ≤ records_end)
    bounds =
        let (_, says) = step_says block c.form c.at c.before right in
        let ends = says.ends in
        (start_behind c.form c.at, omega arith, ends)

    step_alone : (m : ℕ) → given_by (suc m) (alone c r.k) journal ≡ here ∷ given_by m (alone next (r.k + 1)) journal
    unfolding given_by walked given_of
    step_alone m =
        let few = r.few in
        let low = r.low in
        let l : block_size - r.k - 1 ≡ block_size - (r.k + 1) = omega arith in
        let w : walk_of (alone c r.k) journal ≡ Some (here, alone next (r.k + 1)) =
        sym (walk_here (alone c r.k) journal (omega arith) (omega arith))
        ∙ sym (when_true (step_right c.form block c.at c.before) _ (Some (spot_of (alone c r.k) block, moved_of (alone c r.k) block)) None right refl)
        ∙ ap (λ (n : ℕ). Some (here, record { base = c.base; blocks = 1; form = c.form; at = behind_in c.form block c.at; before = record_number c.form block c.at c.before; left = n })) l in
        ap (λ (x : Option (Spot × Cursor)). walked x (λ n. given_by m n journal)) w

    step_found : spot_at journal (here.start + record_head) ≡ here
    unfolding spot_at spot_with
    step_found =
        let (a, b, d) = bounds in
        let few = r.few in
        let low = r.low in
        let base : (here.start + record_head) / block_size * block_size ≡ c.base = let w = r.whole in omega arith in
        let n : block_size ≡ r.k + suc (block_size - r.k - 1) = omega arith in
        let start = here.start + record_head in
        ap (λ (i : ℕ). spot_with start (given_by block_size (alone_at journal i) journal)) base
        ∙ ap (λ (i : ℕ). spot_with start (given_by i (alone_at journal c.base) journal)) n
        ∙ r.same (suc (block_size - r.k - 1)) start (omega arith)
        ∙ ap (spot_with start) (step_alone (block_size - r.k - 1))
        ∙ sym (when_eq start start here here _ refl refl)

    step_reached : Reached next
    unfolding spot_with
    step_reached =
        let (a, b, d) = bounds in
        let few = r.few in
        record {
          k = r.k + 1;
          few = omega arith;
          low = d;
          whole = r.whole;
          same = λ m start l.
              let n : r.k + 1 + m ≡ r.k + suc m = omega arith in
              ap (λ (i : ℕ). spot_with start (given_by i (alone_at journal c.base) journal)) n
              ∙ r.same (suc m) start (omega arith)
              ∙ ap (spot_with start) (step_alone m)
              ∙ sym (when_ne (here.start + record_head) start _ here _ (λ z. omega arith) refl);
        }

  -- what a step gives is found again
  abbrev Found : Spot → Cursor → Type 0
  Found s next = (spot_at journal (s.start + record_head) ≡ s) × ((s.start + record_head) / block_size * block_size + block_size ≤ length journal) × Reached next

  given_again : (c next : Cursor) (s : Spot) → Reached c → c.base + block_size ≤ length journal → given_of c (block_at journal c.base) ≡ Some (s, next) → Found s next
  unfolding given_of
  given_again c next s r fits e =
      let b = block_at journal c.base in
      let (right, same) = some_was (step_right c.form b c.at c.before) (spot_of c b, moved_of c b) (s, next) e in
      let f : spot_of c b ≡ s = ap (λ (x : Spot × Cursor). x.0) same in
      let g : moved_of c b ≡ next = ap (λ (x : Spot × Cursor). x.1) same in
      let (x, y, z) = bounds c r right in
      let base : ((spot_of c b).start + record_head) / block_size * block_size ≡ c.base = let w = r.whole in omega arith in
      subst (λ (t : Spot). Found t next) f (step_found c r right, omega arith, subst Reached g (step_reached c r right))

  walk_again : (c next : Cursor) (s : Spot) → Reached c → c.base + c.blocks * block_size ≤ length journal → walk_of c journal ≡ Some (s, next) → Found s next
  unfolding walk_of entered_in
  walk_again c next s r fits e =
      (when_elim (λ (w : Option (Spot × Cursor)). w ≡ Some (s, next) → Found s next) (c.blocks <? 1)
      (λ t e. absurd (let y : ◌≡◌ {A = ℕ} 0 1 = cc in omega arith))
      (λ t. let some = ltb-false c.blocks 1 t in when_elim (λ (w : Option (Spot × Cursor)). w ≡ Some (s, next) → Found s next) (0 <? c.left)
      (λ t e. given_again c next s r (omega arith) e)
      (λ t. when_elim (λ (w : Option (Spot × Cursor)). w ≡ Some (s, next) → Found s next) (c.blocks <? 2)
      (λ t e. absurd (let y : ◌≡◌ {A = ℕ} 0 1 = cc in omega arith))
      (λ t e.
      let two = ltb-false c.blocks 2 t in
      let whole = r.whole in
      given_again (entered_in (block_at journal (c.base + block_size)) (c.base + block_size) (c.blocks - 1)) next s
      (reached_entered (c.base + block_size) (c.blocks - 1) (omega arith)) (omega arith) e)))) e

  -- all that is given
  abbrev Again : Spot → Type 0
  Again s = StandsIn journal s × (spot_at journal (s.start + record_head) ≡ s) × ((s.start + record_head) / block_size * block_size + block_size ≤ length journal)

  all_again : (n : ℕ) (c : Cursor) → Reached c → c.base + c.blocks * block_size ≤ length journal → (s : Spot) → Memᴰ s (given_by n c journal) → Again s
  unfolding given_by walked
  all_again zero c r fits s i = absurd (Memᴰ.not-nil i)
  all_again (suc n) c r fits s i = go (all_again n) (walk_of c journal) refl i
    where
      go : ((d : Cursor) → Reached d → d.base + d.blocks * block_size ≤ length journal → (s : Spot) → Memᴰ s (given_by n d journal) → Again s)
          → (w : Option (Spot × Cursor)) → walk_of c journal ≡ w → Memᴰ s (walked w (λ next. given_by n next journal)) → Again s
      go later None e i = absurd (Memᴰ.not-nil i)
      go later (Some (t, next)) e (Memᴰ.head q) =
          let (stands, _) = gives_standing journal c next t fits e in
          let (a, b, _) = walk_again c next t r fits e in
          subst Again (sym q) (stands, a, b)
      go later (Some (t, next)) e (Memᴰ.tail i) =
          let (_, fits') = gives_standing journal c next t fits e in
          let (_, _, d) = walk_again c next t r fits e in
          later next d fits' s i

-- no block gives nothing
none_given : (journal : List ℕ) (n : ℕ) (c : Cursor) (s : Spot) → c.blocks < 1 → Memᴰ s (given_by n c journal) → ⊥
unfolding given_by walked
none_given journal zero c s h i = Memᴰ.not-nil i
none_given journal (suc n) c s h i =
    Memᴰ.not-nil (subst (λ (w : Option (Spot × Cursor)). Memᴰ s (walked w (λ next. given_by n next journal))) (sym (walk_none c journal h)) i)

pub gives_again : GivesAgain
unfolding entered_in
gives_again journal blocks n s fits i =
    eq_or blocks 0
    (λ z. absurd (none_given journal n _ s (omega arith) (subst (λ (c : Cursor). Memᴰ s (given_by n c journal)) (sym (cursor_none journal blocks z)) i)))
    (λ z. all_again journal n (entered_in (block_at journal 0) 0 blocks) (reached_entered journal 0 blocks refl) (omega arith) s
    (subst (λ (c : Cursor). Memᴰ s (given_by n c journal)) (sym (cursor_first journal blocks z)) i))
