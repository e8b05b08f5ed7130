-- The records of the rows of a table, packed one at a time: what was packed and what is left come to the whole. Assumes nothing.
use mathlib.Core.Path.{◌≡◌, refl, sym, ap, subst, ◌∙◌}
use mathlib.Core.List.Memᴰ
use mathlib.Core.List.{List, [], ◌∷◌}
use Prim.Native.Nat.{ℕ, suc, ◌+◌, ◌*◌, ◌-◌, ◌/◌, ◌≤◌, ◌<◌}
use native.Mathlib.Omega.{arith}
use native.Mathlib.Numerals.{add-one}
use lib.ListN.{length, get_or, take, drop, length-map, length-replicate, drop_of_length-le}
use lib.Seq.{drop-cons}
use Rattle.std.proofs.lemmas.List.{get_or-map}
use Rattle.std.specs.Prelude.{Some, None}
use Rattle.group.proofs.Choice.{when_le, when_nle, when_eq, when_ne}
use Rattle.group.proofs.Lists.{le_or}
use Rattle.message.specs.Order.{Ordered}
use Rattle.big_endian.specs.Number.{number_at, bytes_of}
use Rattle.text.specs.LaidAt.{LaidAt}
use Rattle.text.proofs.Pieces.{laid_then}
use Rattle.journal.specs.Limits.{block_size, record_head, number_size}
use Rattle.journal.specs.Block.{record_with, record_of, length_at, message_at}
use Rattle.journal.specs.Laws.{StandsIn}
use Rattle.journal.specs.Walk.{alone_in, alone_at, walk_of, given_by, spot_with, spot_at, message_on}
use Rattle.journal.specs.declared.Cursor.{Cursor}
use Rattle.journal.specs.declared.Spot.{Spot}
use Rattle.journal.proofs.Given.{gives_standing}
use Rattle.plan.specs.Kept.{record_size, records_room}
use Rattle.plan.specs.Laws.{◌among◌}
use Rattle.plan.specs.Pack.{Spotted, AllSpotted, messages_at, Packs, packs, fresh_packer, numbered, grown_to, kept_by, packed_by, Sound}
use Rattle.plan.specs.Table.{starts_of}
use Rattle.plan.specs.declared.Packer.{Packer}
use Rattle.plan.specs.declared.Row.{Row}
use Rattle.plan.proofs.Gathering.{given_next, given_end}
use Rattle.plan.proofs.Printing.{no_row}
use Rattle.plan.proofs.Filling.{numbered_length, message_small, written_length, closed_length}

-- a record of the journal, laid with its number before it
module _ (journal : List ℕ) (s : Spot) (stands : StandsIn journal s) where
  pub numbered_laid : {at x y : ℕ} {lent between after : List ℕ} (bytes : List ℕ) (count : ℕ) → bytes ≡ bytes_of number_size s.number.0
      → count ≡ number_at 4 journal (s.start + 1) → LaidAt at bytes lent between x
      → LaidAt x (record_with (get_or journal s.start 0) count (take (s.end - (s.start + record_head)) (drop (s.start + record_head) journal))) between after y
      → LaidAt at (numbered (message_on journal s)) lent after y
  unfolding record_of message_at
  numbered_laid bytes count b n f g =
      let e = stands.ends in
      let l : s.end - (s.start + record_head) ≡ length_at journal s.start = omega arith in
      laid_then (bytes_of number_size s.number.0) _ (rw b at f) (rw (n, l) at g)

-- the search for a record in its block
pub record Seeking (journal : List ℕ) (start : ℕ) (cursor : Cursor) (left : ℕ) : Type 0 where
  pub within : cursor.base + cursor.blocks * block_size ≤ length journal
  pub rest : spot_with start (given_by left cursor journal) ≡ spot_at journal start

pub seeking_start : (journal : List ℕ) (start base : ℕ) (cursor : Cursor) → base ≡ start / block_size * block_size → cursor ≡ alone_at journal base → base + block_size ≤ length journal
    → Seeking journal start cursor block_size
unfolding spot_at alone_in
seeking_start journal start base cursor b e h = rw e (record { within = omega arith; rest = ap (λ (n : ℕ). spot_with start (given_by block_size (alone_at journal n) journal)) b })

module _ (journal : List ℕ) (start : ℕ) (cursor : Cursor) (left : ℕ) (p : Seeking journal start cursor left) where
  pub seeking_stands : (s : Spot) (next : Cursor) → walk_of cursor journal ≡ Some (s, next) → StandsIn journal s
  seeking_stands s next e = (gives_standing journal cursor next s p.within e).0

  pub seeking_found : (s : Spot) (next : Cursor) → 0 < left → walk_of cursor journal ≡ Some (s, next) → s.start + record_head ≡ start → s ≡ spot_at journal start
  unfolding spot_with
  seeking_found s next h e q =
      when_eq (s.start + record_head) start s s _ q refl ∙ sym (ap (spot_with start) (given_next journal cursor next s left h e)) ∙ p.rest

  pub seeking_on : (s : Spot) (next : Cursor) (left' : ℕ) → left ≡ left' + 1 → walk_of cursor journal ≡ Some (s, next) → (s.start + record_head ≡ start → ⊥) → Seeking journal start next left'
  unfolding spot_with
  seeking_on s next left' h e q =
      let l : left - 1 ≡ left' = omega arith in
      record {
        within = (gives_standing journal cursor next s p.within e).1;
        rest = when_ne (s.start + record_head) start _ s _ q (ap (λ (k : ℕ). spot_with start (given_by k next journal)) (sym l)) ∙ sym (ap (spot_with start) (given_next journal cursor next s left (omega arith) e)) ∙ p.rest;
      }

  abbrev none : Spot
  none = record { number = record { 0 = 0 }; start = 0; end = 0 }

  pub seeking_end : walk_of cursor journal ≡ None → none ≡ spot_at journal start
  unfolding spot_with
  seeking_end e = sym (ap (spot_with start) (given_end journal cursor left e)) ∙ p.rest

  pub seeking_none : left ≡ 0 → none ≡ spot_at journal start
  unfolding spot_with given_by
  seeking_none z = sym (ap (λ (k : ℕ). spot_with start (given_by k cursor journal)) z) ∙ p.rest

-- what holds of packing, where so many records of `most` are left and the output has that room
pub record Fit (most room left : ℕ) (x : Packs) : Type 0 where
  pub sound : Sound x.packer left most
  pub hand_size : length x.packer.hand ≡ block_size
  pub out_size : length x.out ≡ room

module _ (most room left : ℕ) (x : Packs) (f : Fit most room left x) where
  fit_less : (less : ℕ) → less ≤ left → Fit most room less x
  fit_less less h =
      let met = f.sound.met in
      record {
        sound =
            record {
              room = f.sound.room;
              few = f.sound.few;
              some = f.sound.some;
              met = omega arith;
              held = λ k. let e = f.sound.held k in omega arith;
            };
        hand_size = f.hand_size;
        out_size = f.out_size;
      }

  fit_kept : (m : Ordered) → record_size m ≤ records_room → 0 < left → Fit most room (left - 1) (kept_by x m)
  unfolding kept_by grown_to
  fit_kept m small h =
      let n = numbered_length m in
      let z = f.hand_size in
      let u = f.sound.room in
      let few = f.sound.few in
      let met = f.sound.met in
      le_or (x.packer.used + record_size m) records_room
      (λ q.
      subst (Fit most room (left - 1)) (when_le (x.packer.used + record_size m) records_room _ _ _ q refl)
      (record {
        sound = record { room = q; few = omega arith; some = λ k. omega arith; met = omega arith; held = λ k. omega arith };
        hand_size = written_length x.packer.used (numbered m) x.packer.hand (omega arith) ∙ z;
        out_size = f.out_size;
      }))
      (λ q.
      let some = f.sound.some (omega arith) in
      let held = f.sound.held some in
      subst (Fit most room (left - 1)) (when_nle (x.packer.used + record_size m) records_room _ _ _ q refl)
      (record {
        sound = record { room = small; few = omega arith; some = λ k. omega arith; met = omega arith; held = λ k. omega arith };
        hand_size = written_length 0 (numbered m) x.packer.hand (omega arith) ∙ z;
        out_size = closed_length x.packer x.out u z ∙ f.out_size;
      }))

-- what a loop over the rows of a table has come to
pub record Stepping (journal : List ℕ) (rows : List Row) (room : ℕ) (whole x : Packs) (i : ℕ) : Type 0 where
  pub fit : Fit (length rows) room (length rows - i) x
  pub rest : packed_by x (messages_at journal (drop i (starts_of rows))) ≡ whole

pub stepping_start : (journal : List ℕ) (rows : List Row) (out : List ℕ) (packer : Packer) → packer ≡ fresh_packer
    → Stepping journal rows (length out) (packed_by (packs fresh_packer out) (messages_at journal (starts_of rows))) (packs packer out) 0
stepping_start journal rows out packer p =
    record {
      fit =
          rw p
          (record {
            sound = record { room = omega arith; few = omega arith; some = λ k. k; met = omega arith; held = λ k. absurd (omega arith) };
            hand_size = length-replicate {A = ℕ} 512 0;
            out_size = refl;
          });
      rest = rw p refl;
    }

module _ (journal : List ℕ) (rows : List Row) (room : ℕ) (whole x : Packs) (i : ℕ) (all : AllSpotted journal (starts_of rows))
    (p : Stepping journal rows room whole x i) where
  abbrev start : Row → ℕ
  start row = row.start

  pub stepping_spotted : i < length rows → Spotted journal (get_or rows i no_row).start
  stepping_spotted h =
      let n = length-map rows start in
      rw (get_or-map start rows i no_row 0 h) at (all i (omega arith))

  pub stepping_on : (s : Spot) (y : Packs) → i < length rows → s ≡ spot_at journal (get_or rows i no_row).start → y ≡ kept_by x (message_on journal s)
      → Stepping journal rows room whole y (i + 1)
  unfolding packed_by
  stepping_on s y h e q =
      let n = length-map rows start in
      let l : length rows - (i + 1) ≡ length rows - i - 1 = omega arith in
      let m = message_on journal (spot_at journal (get_or rows i no_row).start) in
      let y-is : y ≡ kept_by x m = q ∙ ap (λ (t : Spot). kept_by x (message_on journal t)) e in
      let next : drop i (starts_of rows) ≡ (get_or rows i no_row).start ∷ drop (i + 1) (starts_of rows) =
      drop-cons (starts_of rows) i 0 (omega arith) ∙ ap (λ (k : ℕ). k ∷ drop (suc i) (starts_of rows)) (get_or-map start rows i no_row 0 h)
      ∙ ap (λ (k : ℕ). (get_or rows i no_row).start ∷ drop k (starts_of rows)) (sym (add-one i)) in
      record {
        fit = rw (y-is, l) (fit_kept (length rows) room (length rows - i) x p.fit m (message_small journal (spot_at journal (get_or rows i no_row).start) (stepping_spotted h).stands) (omega arith));
        rest = ap (λ (z : Packs). packed_by z (messages_at journal (drop (i + 1) (starts_of rows)))) y-is
            ∙ sym (ap (λ (k : List ℕ). packed_by x (messages_at journal k)) next) ∙ p.rest;
      }

  pub stepping_done : length rows ≤ i → (x ≡ whole) × Sound x.packer 0 (length rows)
  unfolding packed_by
  stepping_done h =
      let n = length-map rows start in
      let z : drop i (starts_of rows) ≡ [] = drop_of_length-le (starts_of rows) {i = i} (omega arith) in (
        sym (ap (λ (k : List ℕ). packed_by x (messages_at journal k)) z) ∙ p.rest,
        (fit_less (length rows) room (length rows - i) x p.fit 0 (omega arith)).sound,
      )

-- the messages there have room in a block
pub messages_small : (journal places : List ℕ) → AllSpotted journal places → (m : Ordered) → m among messages_at journal places → record_size m ≤ records_room
messages_small journal [] all m i = absurd (Memᴰ.not-nil i)
messages_small journal (p ∷ places) all m i = go (messages_small journal places (λ k h. all (suc k) (omega arith)) m) i
  where
    go : (m among messages_at journal places → record_size m ≤ records_room) → m among messages_at journal (p ∷ places) → record_size m ≤ records_room
    go f (Memᴰ.head e) = rw e (message_small journal (spot_at journal p) (all 0 (omega arith)).stands)
    go f (Memᴰ.tail i) = f i
