-- What a terminal begins a group with, as a member, stays the same as it submits and takes; and it is the same of its member as a result will leave it.
-- Assumes nothing.
use mathlib.Core.Path.{◌≡◌, refl, sym, ap, ap₂, ◌∙◌}
use mathlib.Core.Bool.{true, false}
use mathlib.Core.List.{List}
use Prim.Native.Nat.{ℕ, zero, suc, ◌+◌, ◌-◌, ◌≤◌, ◌<◌}
use native.Mathlib.Nat.{le_refl}
use native.Mathlib.Omega.{arith}
use borrow.Author.Tests.{le-leb, lt-leb, leb-false}
use lib.ListN.{length, get_or, set}
use lib.Seq.{get_or-set_same, get_or-set_other}
use Rattle.group.proofs.Choice.{when_true, when_false}
use Rattle.group.proofs.Lists.{when_elim, eq_or, le_or}
use Rattle.group.specs.Choice.{when◌then◌else◌, ◌≤?◌}
use Rattle.group.specs.Limits.{held_most, places_most}
use Rattle.group.specs.declared.Group.{Group}
use Rattle.history.specs.State as history
use Rattle.message.specs.Message.{Message, empty_message, blank}
use Rattle.member.proofs.Acknowledged.{reach_least, reach_near, reach_took}
use Rattle.member.proofs.Soundness as memberSoundness
use Rattle.member.specs.Calls as member
use Rattle.member.specs.Laws as memberLaws
use Rattle.member.specs.State.{Member, reach_of}
use Rattle.sequencer.specs.State.{Sequencer}
use Rattle.window.specs.Places as window
use Rattle.window.specs.Places.{larger_of, smaller_of}
use Rattle.recovery.proofs.Laws.{Still}
use Rattle.recovery.specs.Begin.{begun, counts_in, history_from, elected_sequencer, member_in, dropped_of}
use Rattle.recovery.specs.Calls as terminal
use Rattle.recovery.specs.State.{Terminal, serves, kept_floor, message_of_number, counted, counted_row, counts_of}
use Rattle.reset.proofs.Cutting.{dropped_same}
use Rattle.reset.proofs.Made.{reach_same}

-- the sequencer that begins from the member
abbrev pub from_member : Terminal → Group → ℕ → Sequencer
from_member t group number = begun group number (kept_floor t) (counts_of t) (history_from t (kept_floor t) (reach_of t.member - kept_floor t))

pub elected_member : (t : Terminal) (group : Group) (number : ℕ) → serves t ≡ false → elected_sequencer t group number ≡ from_member t group number
unfolding elected_sequencer
elected_member t group number e = sym (when_false (serves t) _ _ _ e refl)

pub elected_own : (t : Terminal) (group : Group) (number : ℕ) → serves t ≡ true
    → elected_sequencer t group number ≡ begun group number t.sequencer.floor.0 (counts_in t.sequencer.acknowledgements) t.sequencer.history
unfolding elected_sequencer
elected_own t group number e = sym (when_true (serves t) _ _ _ e refl)

-- two terminals that begin alike
pub record Same (t t' : Terminal) : Type 0 where
  pub read : t'.kept.read.0 ≡ t.kept.read.0
  pub reach : reach_of t'.member ≡ reach_of t.member
  pub counts : counts_of t' ≡ counts_of t
  pub message : (s : ℕ) → reach_of t.member < s + places_most → s ≤ reach_of t.member → message_of_number t' s ≡ message_of_number t s

module _ (t t' : Terminal) (h : Same t t') where
  pub floor_same : kept_floor t' ≡ kept_floor t
  unfolding kept_floor
  floor_same = rw (h.read, h.reach)

  history_same : (floor k : ℕ) → floor + k ≤ reach_of t.member → reach_of t.member ≤ floor + places_most → history_from t' floor k ≡ history_from t floor k
  unfolding history_from
  history_same floor zero b w = refl
  history_same floor (suc k) b w =
      ap₂ (λ (l : List Message) (m : Message). set l (history.place_of (floor + suc k)) m) (history_same floor k (omega arith) w) (h.message (floor + suc k) (omega arith) b)

  pub from_same : kept_floor t ≤ reach_of t.member → reach_of t.member ≤ kept_floor t + places_most → (group : Group) (number : ℕ) → from_member t' group number ≡ from_member t group number
  from_same low wide group number =
      let f = floor_same in
      let hist : history_from t' (kept_floor t') (reach_of t'.member - kept_floor t') ≡ history_from t (kept_floor t) (reach_of t.member - kept_floor t) =
      ap₂ (λ (a b : ℕ). history_from t' a (b - a)) f h.reach ∙ history_same (kept_floor t) (reach_of t.member - kept_floor t) (omega arith) wide in
      ap₂ (λ (a : ℕ) (l : List Message). begun group number a (counts_of t') l) f hist ∙ ap (λ (l : List ℕ). begun group number (kept_floor t) l (history_from t (kept_floor t) (reach_of t.member - kept_floor t))) h.counts

-- rows of counts, where the messages are the same
row_same : (counts : List ℕ) (held held' : List Message) (t k : ℕ) → ((s : ℕ) → t < s → s ≤ t + k → window.message_at held' s ≡ window.message_at held s) → counted_row counts held' t k ≡ counted_row counts held t k
unfolding counted_row
row_same counts held held' t zero h = refl
row_same counts held held' t (suc k) h = ap₂ counted (row_same counts held held' t k (λ s a b. h s a (omega arith))) (h (t + suc k) (omega arith) (le_refl _))

-- the first message of a row counts first
row_first : (counts : List ℕ) (held : List Message) (t k : ℕ) → counted_row (counted counts (window.message_at held (t + 1))) held (t + 1) k ≡ counted_row counts held t (suc k)
unfolding counted_row
row_first counts held t zero = refl
row_first counts held t (suc k) =
    let z : t + 1 + suc k ≡ t + suc (suc k) = omega arith in
    ap₂ counted (row_first counts held t k) (ap (window.message_at held) z)

-- a call that leaves what is taken and held
still_row : (counts : List ℕ) (m m' : Member) → Still m m'
    → (reach_of m' ≡ reach_of m) × (counted_row counts m'.held m'.taken.0 (reach_of m' - m'.taken.0) ≡ counted_row counts m.held m.taken.0 (reach_of m - m.taken.0))
unfolding reach_of
still_row counts m m' s = rw (s.held, s.taken) (refl, refl)

pub still_same : (t : Terminal) (m' : Member) → Still t.member m' → Same t (terminal.with_member t m' t.kept)
unfolding counts_of message_of_number
still_same t m' s =
    let x = still_row t.kept.counts t.member m' s in
    record {
      read = refl;
      reach = x.0;
      counts = x.1;
      message = λ k a b. rw (s.held, s.taken);
    }

-- a take of the next number
module _ (t : Terminal) (typed : memberLaws.Typed t.member) (sound : memberSoundness.Sound t.member) (long : length t.kept.past ≡ places_most)
    (held : 1 ≤ (window.message_at t.member.held (t.member.taken.0 + 1)).count) where
  abbrev m : Member
  m = t.member

  abbrev k : ℕ
  k = m.taken.0

  abbrev next : Message
  next = window.message_at m.held (k + 1)

  abbrev after : Terminal
  after = terminal.with_member t (member.with_taken m next) (terminal.kept_took t.kept (k + 1) next)

  abbrev cleared : List Message
  cleared = set m.held (window.place_of (k + 1)) empty_message

  pub next_reached : k + 1 ≤ reach_of m
  unfolding member.with_taken
  next_reached = let a = reach_least (member.with_taken m next) in let b = reach_took m next typed sound held in omega arith

  cleared_same : (s : ℕ) → k + 1 < s → s ≤ k + held_most → window.message_at cleared s ≡ window.message_at m.held s
  cleared_same s a b = get_or-set_other m.held (window.place_of (k + 1)) (window.place_of s) empty_message blank (omega arith)

  taken_counts : counts_of after ≡ counts_of t
  unfolding counts_of member.with_taken terminal.kept_took
  taken_counts =
      let near = reach_near m in
      let up = next_reached in
      let r = reach_took m next typed sound held in
      let size : reach_of m - k ≡ suc (reach_of m - (k + 1)) = omega arith in
      ap (λ (x : ℕ). counted_row (counted t.kept.counts next) cleared (k + 1) (x - (k + 1))) r
      ∙ row_same (counted t.kept.counts next) m.held cleared (k + 1) (reach_of m - (k + 1)) (λ s a b. cleared_same s a (omega arith))
      ∙ row_first t.kept.counts m.held k (reach_of m - (k + 1))
      ∙ ap (λ (x : ℕ). counted_row t.kept.counts m.held k x) (sym size)

  message_same : (s : ℕ) → reach_of m < s + places_most → s ≤ reach_of m → message_of_number after s ≡ message_of_number t s
  unfolding message_of_number member.with_taken terminal.kept_took
  message_same s a b =
      let near = reach_near m in
      let up = next_reached in
      let past' : List Message = set t.kept.past (history.place_of (k + 1)) next in
      le_or s k
      (λ l.
      sym (when_true (s ≤? k + 1) (history.message_at past' s) _ _ (le-leb s (k + 1) (omega arith)) refl)
      ∙ get_or-set_other t.kept.past (history.place_of (k + 1)) (history.place_of s) next blank (omega arith)
      ∙ when_true (s ≤? k) (history.message_at t.kept.past s) _ _ (le-leb s k l) refl)
      (λ l. when_false (s ≤? k) _ _ _ (lt-leb s k l) (rest s a b l near up))
    where
      rest : (s : ℕ) → reach_of m < s + places_most → s ≤ reach_of m → k < s → reach_of m ≤ k + held_most → k + 1 ≤ reach_of m
          → (when s ≤? k + 1 then history.message_at (set t.kept.past (history.place_of (k + 1)) next) s else window.message_at cleared s) ≡ window.message_at m.held s
      rest s a b l near up =
          eq_or s (k + 1)
          (λ q.
          sym (when_true (s ≤? k + 1) (history.message_at (set t.kept.past (history.place_of (k + 1)) next) s) _ _ (le-leb s (k + 1) (omega arith)) refl)
          ∙ ap (λ (j : ℕ). get_or (set t.kept.past (history.place_of (k + 1)) next) (history.place_of j) blank) q
          ∙ get_or-set_same t.kept.past (history.place_of (k + 1)) next blank (omega arith)
          ∙ ap (window.message_at m.held) (sym q))
          (λ q. sym (when_false (s ≤? k + 1) (window.message_at cleared s) _ _ (lt-leb s (k + 1) (omega arith)) refl) ∙ cleared_same s (omega arith) (omega arith))

  pub taken_same : Same t after
  unfolding terminal.kept_took
  taken_same =
      record {
        read = refl;
        reach = reach_took m next typed sound held;
        counts = taken_counts;
        message = message_same;
      }

-- its member as a result will leave it, where it reaches no further than the group began with
pub cut_same : (t : Terminal) (group : Group) (cut : ℕ) → length t.member.held ≡ held_most → reach_of t.member ≤ cut → Same t (terminal.with_member t (member_in t.member group cut) t.kept)
unfolding counts_of message_of_number
cut_same t group cut long below =
    let m = t.member in
    let near = reach_near m in
    let r = reach_same m group cut long below in
    let same : (s : ℕ) → m.taken.0 < s → s ≤ reach_of m → window.message_at (dropped_of m.held cut m.taken.0 held_most) s ≡ window.message_at m.held s =
    λ s a b. dropped_same m.held cut m.taken.0 long held_most s (le_refl held_most) a (omega arith) (omega arith) in
    record {
      read = refl;
      reach = r;
      counts =
          ap (λ (x : ℕ). counted_row t.kept.counts (dropped_of m.held cut m.taken.0 held_most) m.taken.0 (x - m.taken.0)) r
          ∙ row_same t.kept.counts m.held (dropped_of m.held cut m.taken.0 held_most) m.taken.0 (reach_of m - m.taken.0) (λ s a b. let least = reach_least m in same s a (omega arith));
      message = λ s a b.
          let P : Message → Type 0 = λ y. (when s ≤? m.taken.0 then history.message_at t.kept.past s else window.message_at (dropped_of m.held cut m.taken.0 held_most) s) ≡ y in
          when_elim P (s ≤? m.taken.0) (λ e. sym (when_true (s ≤? m.taken.0) _ _ _ e refl))
          (λ e. sym (when_false (s ≤? m.taken.0) _ _ _ e refl) ∙ same s (leb-false s m.taken.0 e) b);
    }
