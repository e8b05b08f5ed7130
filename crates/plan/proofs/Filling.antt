-- The records that stay, packed one at a time: what is laid and what is in hand come to the blocks of all of them. Assumes nothing.
use mathlib.Core.Path.{◌≡◌, refl, sym, ap, subst, ◌∙◌}
use mathlib.Core.List.Memᴰ
use mathlib.Core.List.{List, [], ◌∷◌, ◌++◌, append-nil, append_assoc}
use Prim.Native.Nat.{ℕ, ◌+◌, ◌*◌, ◌-◌, ◌/◌, ◌≤◌, ◌<◌}
use native.Mathlib.Nat.{zero-add}
use native.Mathlib.Omega.{arith}
use borrow.Author.Tests.{ltb-true, eq-eqb, ne_eqb}
use lib.ListN.{length, take, drop, length-append, length-drop, length-replicate}
use lib.Seq.{length-take-le, take_at, drop-drop}
use Rattle.group.specs.Choice.{when◌then◌else◌, ◌<?◌, ◌=?◌}
use Rattle.group.proofs.Choice.{when_true, when_false, when_lt, when_nlt, when_le, when_nle}
use Rattle.group.proofs.Lists.{when_elim}
use Rattle.message.specs.Order.{Ordered}
use Rattle.big_endian.specs.Number.{bytes_of}
use Rattle.big_endian.proofs.Number.{bytes_of-length}
use Rattle.text.specs.LaidAt.{written_at, LaidAt}
use Rattle.text.proofs.Pieces.{laid_none, laid_then}
use Rattle.journal.specs.Limits.{block_size, number_size, compact_mark}
use Rattle.journal.specs.Block.{record_of, framed_by, sealed, compact_records, compact_framed, compact_of}
use Rattle.journal.specs.Laws.{StandsIn}
use Rattle.journal.specs.Walk.{message_on}
use Rattle.journal.specs.declared.Spot.{Spot}
use Rattle.journal.proofs.Records.{record_length}
use Rattle.journal.proofs.Blocks.{compact_length}
use Rattle.plan.specs.Kept.{packed, record_size, records_room, compact_block, blocks_of}
use Rattle.plan.specs.Laws.{◌among◌}
use Rattle.plan.specs.Pack.{Packs, packs, fresh_packer, with_hand, numbered, grown_to, begun_with, closed_in, kept_by, packed_by, blocks_for, Packed}
use Rattle.plan.specs.declared.Packer.{Packer}
use Rattle.plan.proofs.Packing.{packed_elim}
use Rattle.plan.proofs.Rewriting.{records_total}
use Rattle.plan.proofs.Gathering.{payload_length}

-- the bytes of a record and its number
pub numbered_length : (m : Ordered) → length (numbered m) ≡ record_size m
numbered_length m = length-append (bytes_of number_size m.number) (record_of m) ∙ ap (λ (n : ℕ). n + length (record_of m)) (bytes_of-length number_size m.number)

module _ (journal : List ℕ) (s : Spot) (stands : StandsIn journal s) where
  pub message_size : record_size (message_on journal s) ≡ number_size + (s.end - s.start)
  message_size =
      let l = record_length (message_on journal s) in
      let p = payload_length journal s stands in
      let e = stands.ends in
      omega arith

  pub message_small : record_size (message_on journal s) ≤ records_room
  message_small =
      let m = message_size in
      let e = stands.ends in
      let h = stands.short in
      omega arith

pub written_length : (at : ℕ) (bytes lent : List ℕ) → at + length bytes ≤ length lent → length (written_at at bytes lent) ≡ length lent
written_length at bytes lent h =
    let a = length-append (take at lent) (bytes ++ drop (at + length bytes) lent) in
    let b = length-append bytes (drop (at + length bytes) lent) in
    let t = length-take-le at lent (omega arith) in
    let d = length-drop (at + length bytes) lent in
    omega arith

-- the block in hand is laid, or there is no room
module _ (p : Packer) (out : List ℕ) where
  abbrev closing : List ℕ
  closing = compact_of p.first p.records (take p.used p.hand)

  pub closed_none : length out / block_size ≤ p.blocks → out ≡ closed_in p out
  unfolding closed_in
  closed_none h = when_nlt p.blocks (length out / block_size) _ _ _ h refl

  module _ (used : p.used ≤ records_room) (sized : length p.hand ≡ block_size) where
    closing_length : length closing ≡ block_size
    closing_length =
        let t = length-take-le p.used p.hand (omega arith) in
        compact_length p.first p.records (take p.used p.hand) (omega arith)

    pub closed_laid : (part : List ℕ) → p.blocks < length out / block_size
        → part ≡ sealed (framed_by compact_mark p.first p.records (take p.used p.hand))
        → take (p.blocks * block_size) out ++ (part ++ drop (p.blocks * block_size + block_size - p.blocks * block_size) (drop (p.blocks * block_size) out)) ≡ closed_in p out
    unfolding closed_in compact_of compact_framed
    closed_laid part h e =
        let at = p.blocks * block_size in
        let n = closing_length in
        let k : at + block_size - at ≡ length closing = omega arith in
        let d : drop (at + block_size - at) (drop at out) ≡ drop (at + length closing) out = ap (λ (i : ℕ). drop i (drop at out)) k ∙ drop-drop (length closing) at out in
        when_lt p.blocks (length out / block_size) _ _ _ h
        (ap (λ (x : List ℕ). take at out ++ (x ++ drop (at + block_size - at) (drop at out))) e ∙ ap (λ (x : List ℕ). take at out ++ (closing ++ x)) d)

    pub closed_length : length (closed_in p out) ≡ length out
    unfolding closed_in
    closed_length =
        let n = closing_length in
        when_elim (λ (x : List ℕ). length x ≡ length out) (p.blocks <? length out / block_size)
        (λ t. let h = ltb-true p.blocks (length out / block_size) t in written_length (p.blocks * block_size) closing out (omega arith)) (λ t. refl)

    closed_room : p.blocks * block_size + block_size ≤ length out → LaidAt (p.blocks * block_size) closing out (closed_in p out) (p.blocks * block_size + block_size)
    unfolding closed_in
    closed_room h =
        let n = closing_length in
        record {
          lays = sym (when_lt p.blocks (length out / block_size) _ _ _ (omega arith) refl);
          ends = omega arith;
          fits = h;
        }

-- a record is kept in the block in hand, or begins the next
module _ (p : Packer) (m : Ordered) (out : List ℕ) where
  pub kept_fits : (r : Packer) (after : List ℕ) (end : ℕ) → p.used + record_size m ≤ records_room → LaidAt p.used (numbered m) p.hand after end
      → r ≡ grown_to (with_hand after p) m.number end → packs r out ≡ kept_by (packs p out) m
  unfolding kept_by
  kept_fits r after end h l e =
      let k : end ≡ p.used + record_size m = l.ends ∙ ap (λ (x : ℕ). p.used + x) (numbered_length m) in
      when_le (p.used + record_size m) records_room _ _ _ h
      (ap (λ (x : Packer). packs x out) (e ∙ ap (grown_to (with_hand after p) m.number) k)
      ∙ ap (λ (x : List ℕ). packs (grown_to (with_hand x p) m.number (p.used + record_size m)) out) l.lays)

  pub kept_over : (after lent : List ℕ) (end : ℕ) → records_room < p.used + record_size m → LaidAt 0 (numbered m) p.hand after end
      → lent ≡ closed_in p out → packs (begun_with (with_hand after p) m.number end) lent ≡ kept_by (packs p out) m
  unfolding kept_by
  kept_over after lent end h l e =
      let k : end ≡ record_size m = l.ends ∙ zero-add (length (numbered m)) ∙ numbered_length m in
      when_nle (p.used + record_size m) records_room _ _ _ h
      (ap (λ (x : ℕ). packs (begun_with (with_hand after p) m.number x) lent) k
      ∙ ap (λ (x : List ℕ). packs (begun_with (with_hand x p) m.number (record_size m)) lent) l.lays
      ∙ ap (λ (x : List ℕ). packs (begun_with (with_hand (written_at 0 (numbered m) p.hand) p) m.number (record_size m)) x) e)

-- the number of a block of some messages
abbrev first_of : List Ordered → ℕ
first_of [] = 0
first_of (m ∷ rest) = m.number

-- what packing has come to: `done` are the bytes of the blocks before the one in hand, `held` the messages in it
record Holding (done : List ℕ) (held : List Ordered) (lent : List ℕ) (x : Packs) : Type 0 where
  hand_size : length x.packer.hand ≡ block_size
  out_size : length x.out ≡ length lent
  first : x.packer.first ≡ first_of held
  records : x.packer.records ≡ length held
  used : x.packer.used ≡ length (compact_records held)
  room : x.packer.used ≤ records_room
  body : take x.packer.used x.packer.hand ≡ compact_records held
  size : x.packer.blocks * block_size ≡ length done
  lays : length done ≤ length lent → LaidAt 0 done lent x.out (length done)

holding_fresh : (lent : List ℕ) → Holding [] [] lent (packs fresh_packer lent)
unfolding compact_records
holding_fresh lent =
    record {
      hand_size = length-replicate {A = ℕ} 512 0;
      out_size = refl;
      first = refl;
      records = refl;
      used = refl;
      room = omega arith;
      body = refl;
      size = refl;
      lays = λ k. laid_none 0 lent (omega arith);
    }

records_snoc : (held : List Ordered) (m : Ordered) → compact_records (held ++ (m ∷ [])) ≡ compact_records held ++ numbered m
unfolding compact_records
records_snoc [] m = ap (λ (x : List ℕ). bytes_of number_size m.number ++ x) (append-nil (record_of m))
records_snoc (h ∷ held) m =
    ap (λ (x : List ℕ). bytes_of number_size h.number ++ (record_of h ++ x)) (records_snoc held m)
    ∙ ap (λ (x : List ℕ). bytes_of number_size h.number ++ x) (sym (append_assoc (record_of h) (compact_records held) (numbered m)))
    ∙ sym (append_assoc (bytes_of number_size h.number) (record_of h ++ compact_records held) (numbered m))

first_snoc : (held : List Ordered) (m : Ordered) (first records : ℕ) → first ≡ first_of held → records ≡ length held
    → when records =? 0 then m.number else first ≡ first_of (held ++ (m ∷ []))
first_snoc [] m first records e n = sym (when_true (records =? 0) m.number m.number first (eq-eqb records 0 n) refl)
first_snoc (h ∷ held) m first records e n = sym (when_false (records =? 0) h.number m.number first (ne_eqb records 0 (λ z. omega arith)) (sym e))

module _ (done : List ℕ) (held : List Ordered) (lent : List ℕ) (x : Packs) (o : Holding done held lent x) where
  abbrev block : List ℕ
  block = compact_of x.packer.first x.packer.records (take x.packer.used x.packer.hand)

  -- the block in hand is that of the messages in it
  block_held : 1 ≤ length held → block ≡ compact_block held
  unfolding compact_block
  block_held h = go held o.first o.records o.body h
    where
      go : (held : List Ordered) → x.packer.first ≡ first_of held → x.packer.records ≡ length held → take x.packer.used x.packer.hand ≡ compact_records held
          → 1 ≤ length held → block ≡ compact_block held
      go [] a b c h = absurd (omega arith)
      go (m ∷ held) a b c h = rw (a, b, c)

  block_length : 1 ≤ length held → length (compact_block held) ≡ block_size
  block_length h = ap length (sym (block_held h)) ∙ closing_length x.packer x.out o.room o.hand_size

  done_length : 1 ≤ length held → length (done ++ compact_block held) ≡ x.packer.blocks * block_size + block_size
  done_length h =
      let b = block_length h in
      let s = o.size in
      length-append done (compact_block held) ∙ omega arith

  done_laid : 1 ≤ length held → length (done ++ compact_block held) ≤ length lent
      → LaidAt 0 (done ++ compact_block held) lent (closed_in x.packer x.out) (length (done ++ compact_block held))
  done_laid h k =
      let d = done_length h in
      let s = o.size in
      let n = o.out_size in
      let l = closed_room x.packer x.out o.room o.hand_size (omega arith) in
      let f : LaidAt 0 done lent x.out (x.packer.blocks * block_size) = rw s (o.lays (omega arith)) in
      rw (d, ← block_held h) (laid_then done block f l)

  -- one more message
  module _ (m : Ordered) where
    holding_fits : x.packer.used + record_size m ≤ records_room → Holding done (held ++ (m ∷ [])) lent (kept_by x m)
    unfolding kept_by grown_to
    holding_fits h =
        let n = numbered_length m in
        let z = o.hand_size in
        let t = length-take-le x.packer.used x.packer.hand (omega arith) in
        let a = length-append (compact_records held) (numbered m) in
        let u = o.used in
        let r = o.records in
        let e = ap length (records_snoc held m) in
        let front_is : take x.packer.used x.packer.hand ++ numbered m ≡ compact_records (held ++ (m ∷ [])) = ap (λ (y : List ℕ). y ++ numbered m) o.body ∙ sym (records_snoc held m) in
        let front_long : length (take x.packer.used x.packer.hand ++ numbered m) ≡ x.packer.used + record_size m = ap length front_is ∙ omega arith in
        subst (Holding done (held ++ (m ∷ [])) lent) (when_le (x.packer.used + record_size m) records_room _ _ _ h refl)
        (record {
          hand_size = written_length x.packer.used (numbered m) x.packer.hand (omega arith) ∙ z;
          out_size = o.out_size;
          first = first_snoc held m x.packer.first x.packer.records o.first o.records;
          records = let l = length-append held (m ∷ []) in omega arith;
          used = omega arith;
          room = h;
          body =
              ap (take (x.packer.used + record_size m)) (sym (append_assoc (take x.packer.used x.packer.hand) (numbered m) (drop (x.packer.used + length (numbered m)) x.packer.hand)))
              ∙ take_at (take x.packer.used x.packer.hand ++ numbered m) (drop (x.packer.used + length (numbered m)) x.packer.hand) (x.packer.used + record_size m) front_long
              ∙ front_is;
          size = o.size;
          lays = o.lays;
        })

    holding_over : records_room < x.packer.used + record_size m → record_size m ≤ records_room → 1 ≤ length held → Holding (done ++ compact_block held) (m ∷ []) lent (kept_by x m)
    unfolding kept_by compact_records
    holding_over h small some =
        let n = numbered_length m in
        let z = o.hand_size in
        let d = done_length some in
        let one : numbered m ≡ compact_records (m ∷ []) = sym (records_snoc [] m) in
        let e = ap length one in
        subst (Holding (done ++ compact_block held) (m ∷ []) lent) (when_nle (x.packer.used + record_size m) records_room _ _ _ h refl)
        (record {
          hand_size = written_length 0 (numbered m) x.packer.hand (omega arith) ∙ z;
          out_size = closed_length x.packer x.out o.room o.hand_size ∙ o.out_size;
          first = refl;
          records = refl;
          used = omega arith;
          room = small;
          body = take_at (numbered m) (drop (0 + length (numbered m)) x.packer.hand) (record_size m) n ∙ one;
          size = omega arith;
          lays = done_laid some;
        })

-- records that take room are some
some_used : (held : List Ordered) → 1 ≤ length (compact_records held) → 1 ≤ length held
unfolding compact_records
some_used [] h = h
some_used (m ∷ held) h = omega arith

-- all messages: what is done and what is in hand are their blocks
pub record Filled (bytes lent : List ℕ) (x : Packs) : Type 0 where
  done : List ℕ
  held : List Ordered
  holding : Holding done held lent x
  comes : done ++ compact_block held ≡ bytes

filled : (ms : List Ordered) → ((m : Ordered) → m among ms → record_size m ≤ records_room) → (done : List ℕ) (held : List Ordered) (lent : List ℕ) (x : Packs)
    → Holding done held lent x → Filled (done ++ blocks_of (packed record_size records_room held ms)) lent (packed_by x ms)
unfolding packed_by packed blocks_of compact_block
filled [] small done [] lent x o = record { done = done; held = []; holding = o; comes = refl }
filled [] small done (h ∷ held) lent x o =
    record { done = done; held = h ∷ held; holding = o; comes = ap (λ (b : List ℕ). done ++ b) (sym (append-nil (compact_block (h ∷ held)))) }
filled (m ∷ ms) small done held lent x o =
    let one = small m (Memᴰ.head refl) in
    let later : (y : Ordered) → y among ms → record_size y ≤ records_room = λ y i. small y (Memᴰ.tail i) in
    let t = records_total held in
    let u = o.used in
    packed_elim record_size records_room (λ l. Filled (done ++ blocks_of l) lent (packed_by (kept_by x m) ms)) held m ms
    (λ q. filled ms later done (held ++ (m ∷ [])) lent (kept_by x m) (holding_fits done held lent x o m (omega arith)))
    (λ q.
    let f = filled ms later (done ++ compact_block held) (m ∷ []) lent (kept_by x m) (holding_over done held lent x o m (omega arith) one (some_used held (omega arith))) in
    rw (append_assoc done (compact_block held) (blocks_of (packed record_size records_room (m ∷ []) ms))) at f)

module _ (ms : List Ordered) (small : (m : Ordered) → m among ms → record_size m ≤ records_room) (lent : List ℕ)
    (r : Packer) (out : List ℕ) (e : packs r out ≡ packed_by (packs fresh_packer lent) ms) where
  come : Filled (blocks_for ms) lent (packs r out)
  come = rw e (filled ms small [] [] lent (packs fresh_packer lent) (holding_fresh lent))

  pub packed_none : r.records ≡ 0 → Packed (blocks_for ms) r.blocks lent out
  unfolding compact_block
  packed_none z = go come.held come.holding come.comes
    where
      go : (held : List Ordered) → Holding come.done held lent (packs r out) → come.done ++ compact_block held ≡ blocks_for ms → Packed (blocks_for ms) r.blocks lent out
      go [] o e =
          let s : come.done ≡ blocks_for ms = sym (append-nil come.done) ∙ e in
          rw (← s) (record { size = o.size; lays = λ h. (o.lays h).lays ∙ rw zero-add })
      go (m ∷ held) o e = let n = o.records in absurd (omega arith)

  pub packed_last : (after : List ℕ) → (r.records ≡ 0 → ⊥) → after ≡ closed_in r out → Packed (blocks_for ms) (r.blocks + 1) lent after
  packed_last after n c =
      let o = come.holding in
      let k = o.records in
      let some : 1 ≤ length come.held = omega arith in
      let d = done_length come.done come.held lent (packs r out) o some in
      rw (← come.comes, c)
      (record {
        size = omega arith;
        lays = λ h. (done_laid come.done come.held lent (packs r out) o some h).lays ∙ rw zero-add;
      })
