-- A turn of each loop, and what a step's parts come to. Assumes nothing.
use mathlib.Core.Path.{◌≡◌, refl, sym, ap, ◌∙◌}
use mathlib.Core.List.{List, [], ◌∷◌, ◌++◌}
use Prim.Native.Nat.{ℕ, suc, ◌+◌, ◌-◌, ◌*◌, ◌^◌, ◌≤◌, ◌<◌, max}
use native.Mathlib.Numerals.{add-one}
use native.Mathlib.Omega.{arith}
use borrow.Author.Tests.{ltb-true, ltb-false}
use lib.Bits.{bit_or}
use Rattle.std.proofs.lemmas.Nat.{or_comm}
use lib.ListN.{length, get_or, set, drop, take, drop_of_length-le}
use lib.Seq.{drop-cons}
use Rattle.group.specs.Choice.{when◌then◌else◌, ◌and◌, ◌<?◌, ◌=?◌}
use Rattle.group.specs.Limits.{places_most, held_most, payload_most}
use Rattle.group.specs.Members.{is_in}
use Rattle.group.proofs.Choice.{when_le, when_nle}
use Rattle.group.proofs.Lists.{when_elim}
use Rattle.message.specs.Message.{Message, blank, empty_message, padded}
use Rattle.store.specs.Places.{messages_in, message_in, part_of, laid_at, Lies}
use Rattle.store.proofs.Places.{part_size, part_length, message_in_lem, messages_laid}
use Rattle.history.specs.State as history
use Rattle.history.specs.View.{Places, listed}
use Rattle.window.specs.Places.{place_of, larger_of, smaller_of}
use Rattle.recovery.specs.Begin.{highest_of, holders_of, dropped_of}
use Rattle.recovery.specs.State.{counted, counted_row}
use Rattle.recovery.specs.Steps.{starts_of, message_from, filled_of}

-- the larger of two numbers, as the code takes it
pub larger_max : (a b : ℕ) → max a b ≡ larger_of a b
unfolding larger_of
larger_max a b =
    when_elim (λ (x : ℕ). max a b ≡ x) (a <? b) (λ t. let z = ltb-true a b t in omega arith) (λ t. let z = ltb-false a b t in omega arith)

-- a list without its last entry more: one step of a recursion from the front, at an index
before : (l : List ℕ) (j : ℕ) → j < length l → drop j l ≡ get_or l j 0 ∷ drop (j + 1) l
before l j h = rw (drop-cons l j 0 h, add-one)

-- the highest reply, from the last member down to the first
highest_step : (repliers : ℕ) (l : List ℕ) (j : ℕ) → j < length l
    → highest_of repliers j (drop j l) ≡ larger_of (when is_in repliers j then get_or l j 0 else 0) (highest_of repliers (j + 1) (drop (j + 1) l))
unfolding highest_of
highest_step repliers l j h = rw (before l j h)

pub highest_turn : (repliers : ℕ) (l : List ℕ) (i : ℕ) {most number r : ℕ} → 0 < i → i ≤ length l → most ≡ highest_of repliers i (drop i l)
    → number ≡ (when is_in repliers (i - 1) then get_or l (i - 1) 0 else 0) → r ≡ larger_of number most → r ≡ highest_of repliers (i - 1) (drop (i - 1) l)
highest_turn repliers l i {most} {number} {r} h k em en er =
    let e : i - 1 + 1 ≡ i = omega arith in
    er ∙ (λ z. larger_of (en z) (em z)) ∙ sym (highest_step repliers l (i - 1) (omega arith) ∙ ap (λ (x : ℕ). larger_of (when is_in repliers (i - 1) then get_or l (i - 1) 0 else 0) (highest_of repliers x (drop x l))) e)

pub highest_end : (repliers : ℕ) (l : List ℕ) (i : ℕ) → length l ≤ i → 0 ≡ highest_of repliers i (drop i l)
unfolding highest_of
highest_end repliers l i h = rw (drop_of_length-le l h)

-- those that replied with a number, likewise
holders_step : (repliers highest : ℕ) (l : List ℕ) (j : ℕ) → j < length l
    → holders_of repliers highest j (drop j l) ≡ bit_or (when is_in repliers j and get_or l j 0 =? highest then 2 ^ j else 0) (holders_of repliers highest (j + 1) (drop (j + 1) l))
unfolding holders_of
holders_step repliers highest l j h = rw (before l j h)

pub holders_turn : (repliers highest : ℕ) (l : List ℕ) (i : ℕ) {found one : ℕ} → 0 < i → i ≤ length l → found ≡ holders_of repliers highest i (drop i l)
    → one ≡ (when is_in repliers (i - 1) and get_or l (i - 1) 0 =? highest then 2 ^ (i - 1) else 0)
    → bit_or found one ≡ holders_of repliers highest (i - 1) (drop (i - 1) l)
holders_turn repliers highest l i {found} {one} h k ef eo =
    let e : i - 1 + 1 ≡ i = omega arith in
    or_comm found one
    ∙ (λ z. bit_or (eo z) (ef z))
    ∙ sym (holders_step repliers highest l (i - 1) (omega arith) ∙ ap (λ (x : ℕ). bit_or (when is_in repliers (i - 1) and get_or l (i - 1) 0 =? highest then 2 ^ (i - 1) else 0) (holders_of repliers highest x (drop x l))) e)

pub holders_end : (repliers highest : ℕ) (l : List ℕ) (i : ℕ) → length l ≤ i → 0 ≡ holders_of repliers highest i (drop i l)
unfolding holders_of
holders_end repliers highest l i h = rw (drop_of_length-le l h)

-- the member's floor
pub floor_is : (read : ℕ) {reach least floor r R : ℕ} → reach ≡ R → least ≡ reach - places_most → floor ≡ larger_of read least → r ≡ smaller_of floor reach
    → r ≡ smaller_of (larger_of read (R - places_most)) R
floor_is read a b c d = d ∙ (λ i. smaller_of ((c ∙ (λ k. larger_of read ((b ∙ (λ m. a m - places_most)) k))) i) (a i))

-- a held message's count counts
module _ (held originators : List ℕ) (size : length held ≡ held_most) (counts₀ : List ℕ) (t : ℕ) where
  count_step : (k at : ℕ) (counts : List ℕ) → at ≡ place_of (t + suc k) → counts ≡ counted_row counts₀ (listed held originators) t k
      → set counts (get_or originators at 0) (larger_of (get_or counts (get_or originators at 0) 0) (get_or held at 0)) ≡ counted_row counts₀ (listed held originators) t (suc k)
  unfolding counted_row counted
  count_step k at counts e c =
      let m = message_in_lem held originators [] [] at (omega arith) in
      (λ i. set (c i) (get_or originators at 0) (larger_of (get_or (c i) (get_or originators at 0) 0) (get_or held at 0)))
      ∙ ap (λ (x : Message). set (counted_row counts₀ (listed held originators) t k) x.originator.0 (larger_of (get_or (counted_row counts₀ (listed held originators) t k) x.originator.0 0) x.count)) (sym m)
      ∙ ap (λ (p : ℕ). counted (counted_row counts₀ (listed held originators) t k) (get_or (listed held originators) p blank)) e

  pub count_on : (number at : ℕ) (counts counts' : List ℕ) → t ≤ number → at ≡ place_of (number + 1)
      → counts' ≡ set counts (get_or originators at 0) (larger_of (get_or counts (get_or originators at 0) 0) (get_or held at 0))
      → counts ≡ counted_row counts₀ (listed held originators) t (number - t) → counts' ≡ counted_row counts₀ (listed held originators) t (number + 1 - t)
  count_on number at counts counts' h p e c =
      let a : number + 1 ≡ t + suc (number - t) = omega arith in
      let b : suc (number - t) ≡ number + 1 - t = omega arith in
      e ∙ count_step (number - t) at counts (p ∙ ap place_of a) c ∙ ap (counted_row counts₀ (listed held originators) t) b

pub counts_begun : (counts : List ℕ) (held : List Message) (t : ℕ) → counts ≡ counted_row counts held t (t - t)
unfolding counted_row
counts_begun counts held t = let e : t - t ≡ 0 = omega arith in rw e

-- acknowledgements start
pub starts_on : (taken₀ taken : List ℕ) (survivors floor i r : ℕ) → taken ≡ starts_of taken₀ survivors floor i → r ≡ (when is_in survivors i then floor else 0)
    → set taken i r ≡ starts_of taken₀ survivors floor (i + 1)
unfolding starts_of
starts_on taken₀ taken survivors floor i r e d = let z : suc i ≡ i + 1 = omega arith in (λ k. set (e k) i (d k)) ∙ ap (starts_of taken₀ survivors floor) z

pub starts_begun : (taken : List ℕ) (survivors floor : ℕ) → taken ≡ starts_of taken survivors floor 0
unfolding starts_of
starts_begun taken survivors floor = refl

-- a message goes to a place with all bytes of its payload
padded_whole : (part : List ℕ) → length part ≡ payload_most → padded part ≡ part
padded_whole part e = let z : payload_most - length part ≡ 0 = omega arith in rw z (nothing_behind part)
  where
    nothing_behind : (l : List ℕ) → l ++ [] ≡ l
    nothing_behind [] = refl
    nothing_behind (x ∷ l) = ap (λ (r : List ℕ). x ∷ r) (nothing_behind l)

pub part_short : (source : List ℕ) (from : ℕ) → Lies from source → length (take (from * payload_most + payload_most - from * payload_most) (drop (from * payload_most) source)) ≤ payload_most
part_short source from r = rw (part_size from) (let z = part_length source from r in omega arith)

pub copied_place : (kept originators lengths payloads source : List ℕ) (at from count originator size : ℕ) (payloads' : List ℕ) → at < places_most
    → Places kept originators lengths payloads → Lies from source
    → payloads' ≡ laid_at payloads at (padded (take (from * payload_most + payload_most - from * payload_most) (drop (from * payload_most) source)))
    → messages_in (set kept at count) (set originators at originator) (set lengths at size) payloads'
    ≡ set (messages_in kept originators lengths payloads) at (message_in count originator size (part_of source from))
copied_place kept originators lengths payloads source at from count originator size payloads' h p r e =
    let w : padded (take (from * payload_most + payload_most - from * payload_most) (drop (from * payload_most) source)) ≡ part_of source from =
    ap (λ (k : ℕ). padded (take k (drop (from * payload_most) source))) (part_size from) ∙ padded_whole (part_of source from) (part_length source from r) in
    let a = p.kept_size in
    let b = p.originators_size in
    let c = p.lengths_size in
    let d = p.payloads_size in
    ap (messages_in (set kept at count) (set originators at originator) (set lengths at size)) (e ∙ ap (laid_at payloads at) w)
    ∙ messages_laid kept originators lengths payloads at count originator size (part_of source from) (omega arith) (omega arith) (omega arith) (omega arith) (part_length source from r)

-- the message of a number that was taken, and of one that is held
module _ (past originators lengths payloads : List ℕ) (held : List Message) (t number : ℕ) where
  pub from_past : {x : List Message} (l : List Message) (at : ℕ) → at ≡ history.place_of number → number ≤ t → length past ≡ places_most
      → x ≡ set l at (message_in (get_or past at 0) (get_or originators at 0) (get_or lengths at 0) (part_of payloads at))
      → x ≡ set l (history.place_of number) (message_from (messages_in past originators lengths payloads) held t number)
  unfolding message_from
  from_past {x} l at p h size e =
      let m = message_in_lem past originators lengths payloads at (omega arith) in
      e ∙ ap (λ (y : Message). set l at y) (sym m ∙ ap (λ (i : ℕ). get_or (messages_in past originators lengths payloads) i blank) p ∙ when_le number t _ _ _ h refl) ∙ ap (λ (i : ℕ). set l i (message_from (messages_in past originators lengths payloads) held t number)) p

module _ (past : List Message) (held originators lengths payloads : List ℕ) (t number : ℕ) where
  pub from_held : {x : List Message} (l : List Message) (at place : ℕ) → at ≡ place_of (number + 0) → place ≡ history.place_of number → t < number → length held ≡ held_most
      → x ≡ set l place (message_in (get_or held at 0) (get_or originators at 0) (get_or lengths at 0) (part_of payloads at))
      → x ≡ set l (history.place_of number) (message_from past (messages_in held originators lengths payloads) t number)
  unfolding message_from
  from_held {x} l at place p q h size e =
      let m = message_in_lem held originators lengths payloads at (omega arith) in
      let z : number + 0 ≡ number = omega arith in
      e ∙ ap (λ (y : Message). set l place y) (sym m ∙ ap (λ (i : ℕ). get_or (messages_in held originators lengths payloads) i blank) (p ∙ ap place_of z) ∙ when_nle number t _ _ _ h refl) ∙ ap (λ (i : ℕ). set l i (message_from past (messages_in held originators lengths payloads) t number)) q

filled_more : (kept₀ past held : List Message) (t floor k : ℕ)
    → set (filled_of kept₀ past held t floor k) (history.place_of (floor + suc k)) (message_from past held t (floor + suc k)) ≡ filled_of kept₀ past held t floor (suc k)
unfolding filled_of
filled_more kept₀ past held t floor k = refl

-- one number more in its place
pub filled_on : {x kept : List Message} (kept₀ past held : List Message) (t floor number : ℕ) → floor ≤ number
    → x ≡ set kept (history.place_of (number + 1)) (message_from past held t (number + 1)) → kept ≡ filled_of kept₀ past held t floor (number - floor)
    → x ≡ filled_of kept₀ past held t floor (number + 1 - floor)
filled_on {x} {kept} kept₀ past held t floor number h e c =
    let a : number + 1 ≡ floor + suc (number - floor) = omega arith in
    let b : suc (number - floor) ≡ number + 1 - floor = omega arith in
    e ∙ (λ i. set (c i) (history.place_of (a i)) (message_from past held t (a i))) ∙ filled_more kept₀ past held t floor (number - floor) ∙ ap (filled_of kept₀ past held t floor) b

pub filled_begun : (kept past held : List Message) (t floor : ℕ) → kept ≡ filled_of kept past held t floor (floor - floor)
unfolding filled_of
filled_begun kept past held t floor = let e : floor - floor ≡ 0 = omega arith in rw e

drop_more : (held₀ : List Message) (number t k : ℕ) → number < t + suc k → set (dropped_of held₀ number t k) (place_of (t + suc k)) empty_message ≡ dropped_of held₀ number t (suc k)
unfolding dropped_of
drop_more held₀ number t k h = when_nle (t + suc k) number _ _ _ h refl

drop_less : (held₀ : List Message) (number t k : ℕ) → t + suc k ≤ number → dropped_of held₀ number t k ≡ dropped_of held₀ number t (suc k)
unfolding dropped_of
drop_less held₀ number t k h = when_le (t + suc k) number _ _ _ h refl

-- a held number above a number is dropped, another stays
module _ (held₀ : List Message) (number t k : ℕ) {held : List Message} (c : held ≡ dropped_of held₀ number t k) where
  pub drop_on : {x : List Message} (at : ℕ) → number < t + (k + 1) → at ≡ place_of (t + (k + 1)) → x ≡ set held at empty_message → x ≡ dropped_of held₀ number t (k + 1)
  drop_on {x} at h p e =
      let z : k + 1 ≡ suc k = omega arith in
      let y : suc k ≡ k + 1 = omega arith in
      e ∙ (λ i. set (c i) (p i) empty_message) ∙ ap (λ (j : ℕ). set (dropped_of held₀ number t k) (place_of (t + j)) empty_message) z ∙ drop_more held₀ number t k (omega arith) ∙ ap (dropped_of held₀ number t) y

  pub drop_off : t + (k + 1) ≤ number → held ≡ dropped_of held₀ number t (k + 1)
  drop_off h = let y : suc k ≡ k + 1 = omega arith in c ∙ drop_less held₀ number t k (omega arith) ∙ ap (dropped_of held₀ number t) y

pub drop_begun : (held : List Message) (number t : ℕ) → held ≡ dropped_of held number t 0
unfolding dropped_of
drop_begun held number t = refl
