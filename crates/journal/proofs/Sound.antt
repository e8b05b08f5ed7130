-- A sound writer stays sound: with one more record in hand, with that record alone, and closed. Assumes nothing.
use Rattle.group.specs.Question.{all_yes}
use Rattle.std.specs.Prelude.{Err}
use mathlib.Core.Path.{◌≡◌, refl, sym, ◌∙◌}
use mathlib.Core.Bool.{Bool, true, false}
use mathlib.Core.List.{List}
use Prim.Native.Nat.{ℕ, ◌+◌, ◌*◌, ◌-◌, ◌≤◌}
use native.Mathlib.Omega.{arith}
use borrow.Author.Tests.{le-leb, eq-eqb, ne_eqb, ltb-true, leb-true, eqb-true}
use lib.ListN.{length}
use Rattle.group.specs.Choice.{when◌then◌else◌, ask◌or◌then◌, ◌and◌, ◌<?◌, ◌≤?◌, ◌=?◌}
use Rattle.group.specs.declared.Refusal.TheVariants.{UnsoundState, WrongJournal}
use Rattle.group.specs.Question.{Verdict}
use Rattle.group.proofs.Choice.{says, when_true, when_false, both_hold, both_first, both_then}
use Rattle.group.proofs.Lists.{when_elim, judged_elim, eq_or}
use Rattle.message.specs.Order.{Ordered}
use Rattle.journal.specs.Limits.{records_at, records_end, record_head}
use Rattle.journal.specs.Block.{record_of, ended_at, follows}
use Rattle.journal.specs.Write.{Outcome, writer_after, numbers_sound, writer_sound, allowed, grown, begun, kept_of, write_verdict, write_of, finish_of}
use Rattle.journal.specs.Laws.{StaysSound}
use Rattle.journal.specs.declared.Tail.{Tail}
use Rattle.journal.specs.declared.Writer.{Writer}
use Rattle.journal.proofs.Records.{may, record_length}

-- what a number that may follow says
pub follows_ended : (n number : ℕ) → follows (ended_at n) number ≡ true → number ≡ n + 1
unfolding follows when◌then◌else◌
follows_ended n number e = eqb-true number (n + 1) e

pub follows_positive : (t : Tail) (number : ℕ) → follows t number ≡ true → 1 ≤ number
unfolding follows when◌then◌else◌
follows_positive t number e = go t.free e
  where
    go : (b : Bool) → (when b then t.last.0 <? number else number =? t.last.0 + 1) ≡ true → 1 ≤ number
    go true e = let z = ltb-true t.last.0 number e in omega arith
    go false e = let z = eqb-true number (t.last.0 + 1) e in omega arith

pub follows_next : (t : Tail) (number : ℕ) → t.free ≡ false → follows t number ≡ true → number ≡ t.last.0 + 1
unfolding follows
follows_next t number f e = eqb-true number (t.last.0 + 1) (when_false t.free _ _ _ f refl ∙ e)

-- what `numbers_sound` says
pub record Numbers (w : Writer) : Type 0 where
  pub closed : w.tail.free ≡ false
  pub first : 1 ≤ w.first.0
  pub last : w.first.0 + w.records ≡ w.tail.last.0 + 1

numbers_say : (w : Writer) → numbers_sound w ≡ true → Numbers w
unfolding numbers_sound when◌then◌else◌
numbers_say w e = go w.tail.free refl e
  where
    go : (b : Bool) → w.tail.free ≡ b → (when b then false else 1 ≤? w.first.0 and w.first.0 + w.records =? w.tail.last.0 + 1) ≡ true → Numbers w
    go true f e = absurd (let z : false ≡ true = e in let y : ◌≡◌ {A = ℕ} 0 1 = cc in omega arith)
    go false f e =
        record {
          closed = f;
          first = leb-true 1 w.first.0 (both_first (1 ≤? w.first.0) _ e);
          last = eqb-true _ _ (both_then (1 ≤? w.first.0) _ e);
        }

pub numbers_hold : (w : Writer) → Numbers w → numbers_sound w ≡ true
unfolding numbers_sound
numbers_hold w n =
    sym
    (when_false w.tail.free true _ _ n.closed
    (sym
    (both_hold (1 ≤? w.first.0) _ (le-leb 1 w.first.0 n.first) (eq-eqb (w.first.0 + w.records) (w.tail.last.0 + 1) n.last))))

-- what `writer_sound` says
pub record Sound (w : Writer) : Type 0 where
  pub begins : records_at ≤ w.used
  pub ends : w.used ≤ records_end
  pub fits : record_head * w.records ≤ w.used - records_at
  pub none : w.records ≡ 0 → w.used ≡ records_at
  pub some : (w.records ≡ 0 → ⊥) → Numbers w

pub sound_says : (w : Writer) → writer_sound w ≡ true → Sound w
unfolding writer_sound
sound_says w e =
    let held : (when w.records =? 0 then w.used =? records_at else numbers_sound w) ≡ true =
    both_then (record_head * w.records ≤? w.used - records_at) _ (both_then (w.used ≤? records_end) _ (both_then (records_at ≤? w.used) _ e)) in
    record {
      begins = search says;
      ends = search says;
      fits = search says;
      none = λ z. eqb-true _ _ (when_true (w.records =? 0) _ _ _ (eq-eqb w.records 0 z) refl ∙ held);
      some = λ z. numbers_say w (when_false (w.records =? 0) _ _ _ (ne_eqb w.records 0 z) refl ∙ held);
    }

pub sound_is : (w : Writer) → Sound w → writer_sound w ≡ true
unfolding writer_sound
sound_is w s =
    both_hold (records_at ≤? w.used) _ (le-leb records_at w.used s.begins)
    (both_hold (w.used ≤? records_end) _ (le-leb w.used records_end s.ends)
    (both_hold (record_head * w.records ≤? w.used - records_at) _ (le-leb (record_head * w.records) (w.used - records_at) s.fits)
    (eq_or w.records 0
    (λ z. sym (when_true (w.records =? 0) true _ _ (eq-eqb w.records 0 z) (sym (eq-eqb w.used records_at (s.none z)))))
    (λ z. sym (when_false (w.records =? 0) true _ _ (ne_eqb w.records 0 z) (sym (numbers_hold w (s.some z))))))))

-- with nothing in hand
pub after_sound : (t : Tail) → Sound (writer_after t)
after_sound t =
    record { begins = omega arith; ends = omega arith; fits = omega arith; none = λ z. refl; some = λ z. absurd (z refl) }

-- with one more record, whose number is the next
grown_numbers : (w : Writer) (m : Ordered) → Sound w → follows w.tail m.number ≡ true → Numbers (grown w m)
unfolding when◌then◌else◌
grown_numbers w m s f =
    eq_or w.records 0
    (λ z.
    let e : (w.records =? 0) ≡ true = eq-eqb w.records 0 z in
    record { closed = refl; first = rw e (follows_positive w.tail m.number f); last = rw e (omega arith) })
    (λ z.
    let e : (w.records =? 0) ≡ false = ne_eqb w.records 0 z in
    let n = s.some z in
    let last = n.last in
    let next = follows_next w.tail m.number n.closed f in
    record { closed = refl; first = rw e n.first; last = rw e (omega arith) })

grown_sound : (w : Writer) (m : Ordered) → Sound w → follows w.tail m.number ≡ true → w.used + length (record_of m) ≤ records_end → Sound (grown w m)
grown_sound w m s f h =
    let b = s.begins in
    let k = s.fits in
    let l = record_length m in
    record {
      begins = omega arith;
      ends = h;
      fits = omega arith;
      none = λ z. absurd (omega arith);
      some = λ z. grown_numbers w m s f;
    }

-- with that record alone: as with one more than none
begun_sound : (w : Writer) (m : Ordered) → allowed m ≡ true → follows w.tail m.number ≡ true → Sound (begun m)
unfolding when◌then◌else◌
begun_sound w m a f =
    let l = record_length m in
    let y = (may m a).size in
    grown_sound (writer_after w.tail) m (after_sound w.tail) f (omega arith)

kept_sound_lem : (w : Writer) (m : Ordered) (hand : List ℕ) → Sound w → allowed m ≡ true → follows w.tail m.number ≡ true → Sound (kept_of w m hand).writer
unfolding kept_of
kept_sound_lem w m hand s a f =
    when_elim (λ (o : Outcome). Sound o.writer) (w.used + length (record_of m) ≤? records_end)
    (λ t. grown_sound w m s f (leb-true _ _ t)) (λ t. begun_sound w m a f)

-- a verdict that accepts
accepts : (s a : Bool) → (ask s or Err UnsoundState then ask a or Err WrongJournal then all_yes) ≡ all_yes → (s ≡ true) × (a ≡ true)
unfolding when◌then◌else◌
accepts true true e = (refl, refl)
accepts true false e = absurd (let z : ◌≡◌ {A = ℕ} 0 1 = cc in omega arith)
accepts false a e = absurd (let z : ◌≡◌ {A = ℕ} 0 1 = cc in omega arith)

pub accepted_says : (w : Writer) (m : Ordered) → write_verdict w m ≡ all_yes
    → (writer_sound w ≡ true) × (allowed m ≡ true) × (follows w.tail m.number ≡ true)
unfolding write_verdict
accepted_says w m e =
    let (s, a) = accepts (writer_sound w) (allowed m and follows w.tail m.number) e in
    (s, both_first (allowed m) _ a, both_then (allowed m) _ a)

write_stays : (w : Writer) (m : Ordered) (hand : List ℕ) → writer_sound w ≡ true → writer_sound (write_of w m hand).writer ≡ true
unfolding write_of
write_stays w m hand s =
    judged_elim (λ (o : Outcome). writer_sound o.writer ≡ true) (write_verdict w m) (λ r e. s)
    (λ e.
    let (_, a, f) = accepted_says w m e in
    sound_is (kept_of w m hand).writer (kept_sound_lem w m hand (sound_says w s) a f))

finish_stays : (w : Writer) (hand : List ℕ) → writer_sound w ≡ true → writer_sound (finish_of w hand).writer ≡ true
unfolding finish_of
finish_stays w hand s =
    when_elim (λ (o : Outcome). writer_sound o.writer ≡ true) (writer_sound w)
    (λ t. sound_is (writer_after w.tail) (after_sound w.tail)) (λ t. s)

pub stays_sound : StaysSound
stays_sound w m hand s = (write_stays w m hand s, finish_stays w hand s)
