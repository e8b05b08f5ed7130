-- The laws of specs/Laws.antt: a remainder is below its divisor, numbers and bytes are read as they were written, and the lines
-- of a load are read one after the other. Assumes nothing.
use mathlib.Core.Path.{◌≡◌, refl, sym, ap, ◌∙◌}
use mathlib.Core.Bool.{true}
use mathlib.Core.List.{List, [], ◌∷◌, map}
use Rattle.std.specs.Prelude.{None, Some}
use Prim.Native.Char.{code}
use Prim.Native.Nat.{ℕ, zero, suc, ◌≤◌, ◌<◌}
use native.Mathlib.Nat.{mod-lt}
use native.Mathlib.Omega.{arith}
use borrow.Author.Tests.{lt-ltb}
use lib.ListN.{length}
use Rattle.generator.specs.Generator.{stepped}
use Rattle.group.specs.Choice.{when◌then◌else◌, ◌<?◌, ◌=?◌}
use Rattle.group.specs.Fold.{all}
use Rattle.group.specs.Limits.{members_most}
use Rattle.group.proofs.Choice.{when_le, both_hold}
use Rattle.group.proofs.Lists.{when_elim}
use Rattle.model.specs.World.{Event, submit, repeat, take, status, poll, copy, hand_member, hand_sequencer}
use Rattle.schedule.specs.Line.{line_most, alone, with_number, submitted, handed, with_two, form_of, event_of, opened, opening_with, opening_form, opening_of}
use Rattle.text.specs.Field.{lines_of, fields_of, letter_of, is_letter, hex_in}
use Rattle.text.specs.Text.{space}
use Rattle.text.specs.Written.{payload_text}
use Rattle.text.proofs.Laws.{number_back, payload_back}
use Rattle.workload.specs.Choice.{Chosen, letters_most, drawn, chosen, event_from, events_from}
use Rattle.workload.specs.Line.{opening_fields, event_fields, event_lines, load_of}
use Rattle.workload.specs.Laws.{joined, Within, ChosenWithin, event_text, LineMeans, opening_text, LoadPlays}
use Rattle.workload.proofs.Solid.{Plain, AllPlain, fields_back, line_then, decimal_plain, byte_plain, all_solid, joined_most}

-- one of several choices
drawn_below : (choices state : ℕ) → 1 ≤ choices → drawn choices state < choices
unfolding drawn
drawn_below choices state h = mod-lt _ h

fields_within : (letter n state : ℕ) → 1 ≤ n → Within n (chosen letter n state).event
unfolding chosen Within
fields_within letter n state h =
    let P : Chosen → Type 0 = λ c. Within n c.event in
    when_elim P (letter =? 0) (λ t. (drawn_below n state h, drawn 256 (stepped state), drawn_below 256 (stepped state) (omega arith), refl))
    (λ t. when_elim P (letter =? 1) (λ t. drawn_below n state h)
    (λ t. when_elim P (letter =? 2) (λ t. drawn_below n state h)
    (λ t. when_elim P (letter =? 3) (λ t. drawn_below n state h)
    (λ t. when_elim P (letter =? 4) (λ t. tt)
    (λ t. when_elim P (letter =? 5) (λ t. let k = drawn_below 32 state (omega arith) in (omega arith, omega arith))
    (λ t. when_elim P (letter =? 6) (λ t. (drawn_below 200 state (omega arith), drawn_below n (stepped state) h))
    (λ t. drawn_below 200 state (omega arith))))))))

pub chosen_within : ChosenWithin
unfolding event_from
chosen_within n state h = fields_within (drawn letters_most state) n (stepped state) h

letter_plain : (c : ℕ) → space < c → Plain (c ∷ [])
letter_plain c h = ((h, tt), omega arith)

-- the fields of an event are plain
event_plain : (n : ℕ) (event : Event) → n ≤ members_most → Within n event → AllPlain (event_fields event)
unfolding Within event_fields
event_plain n (submit i payload) m h =
    let k = h.0 in
    (letter_plain (code "S") (omega arith), (decimal_plain i (omega arith), (rw h.3 (byte_plain h.1), tt)))
event_plain n (repeat i) m h = (letter_plain (code "R") (omega arith), (decimal_plain i (omega arith), tt))
event_plain n (take i) m h = (letter_plain (code "T") (omega arith), (decimal_plain i (omega arith), tt))
event_plain n (status i) m h = (letter_plain (code "A") (omega arith), (decimal_plain i (omega arith), tt))
event_plain n poll m h = (letter_plain (code "P") (omega arith), tt)
event_plain n (copy number) m h = let k = h.1 in (letter_plain (code "C") (omega arith), (decimal_plain number (omega arith), tt))
event_plain n (hand_member p i) m h =
    let k = h.0 in
    let l = h.1 in
    (letter_plain (code "M") (omega arith), (decimal_plain p (omega arith), (decimal_plain i (omega arith), tt)))
event_plain n (hand_sequencer p) m h = (letter_plain (code "Q") (omega arith), (decimal_plain p (omega arith), tt))

-- a line of one to three such fields is what they say
module _ (fields : List (List ℕ)) (some-fields : 1 ≤ length fields) (few : length fields ≤ 3) (plain : AllPlain fields) where
  back : (fields_of (joined fields) ≡ fields) × (length (joined fields) ≤ line_most)
  back = go fields some-fields few plain
    where
      go : (fields : List (List ℕ)) → 1 ≤ length fields → length fields ≤ 3 → AllPlain fields → (fields_of (joined fields) ≡ fields) × (length (joined fields) ≤ line_most)
      go [] k l h = absurd (omega arith)
      go (first ∷ rest) k l h = let j = joined_most first rest h in (fields_back first rest (all_solid (first ∷ rest) h), omega arith)

  event_by : event_of (joined fields) ≡ form_of fields
  unfolding event_of
  event_by = sym (when_le (length (joined fields)) line_most (form_of fields) (form_of (fields_of (joined fields))) None back.1 (ap form_of (sym back.0)))

  opening_by : opening_of (joined fields) ≡ opening_form fields
  unfolding opening_of
  opening_by = sym (when_le (length (joined fields)) line_most (opening_form fields) (opening_form (fields_of (joined fields))) None back.1 (ap opening_form (sym back.0)))

byte_back : (byte : ℕ) → byte < 256 → hex_in (payload_text (byte ∷ [])) ≡ Some (byte ∷ [])
unfolding all
byte_back byte h = payload_back (byte ∷ []) (both_hold (byte <? 256) true (lt-ltb byte 256 h) refl)

-- reading the fields of an event gives the event
form_means : (n : ℕ) (event : Event) → n ≤ members_most → Within n event → form_of (event_fields event) ≡ Some event
unfolding Within event_fields form_of alone with_number with_two submitted handed letter_of is_letter when◌then◌else◌
form_means n (submit i payload) m h =
    let k = h.0 in
    rw (h.3, number_back i (omega arith), byte_back h.1 h.2)
form_means n (repeat i) m h = rw (number_back i (omega arith))
form_means n (take i) m h = rw (number_back i (omega arith))
form_means n (status i) m h = rw (number_back i (omega arith))
form_means n poll m h = refl
form_means n (copy number) m h = let k = h.1 in rw (number_back number (omega arith))
form_means n (hand_member p i) m h =
    let k = h.0 in
    let l = h.1 in
    rw (number_back p (omega arith), number_back i (omega arith))
form_means n (hand_sequencer p) m h = rw (number_back p (omega arith))

-- an event has one to three fields
event_fields_lem : (event : Event) → (1 ≤ length (event_fields event)) × (length (event_fields event) ≤ 3)
unfolding event_fields
event_fields_lem (submit i payload) = (omega arith, omega arith)
event_fields_lem (repeat i) = (omega arith, omega arith)
event_fields_lem (take i) = (omega arith, omega arith)
event_fields_lem (status i) = (omega arith, omega arith)
event_fields_lem poll = (omega arith, omega arith)
event_fields_lem (copy number) = (omega arith, omega arith)
event_fields_lem (hand_member p i) = (omega arith, omega arith)
event_fields_lem (hand_sequencer p) = (omega arith, omega arith)

pub line_means : LineMeans
line_means n event m h =
    let few = event_fields_lem event in
    event_by (event_fields event) few.0 few.1 (event_plain n event m h) ∙ form_means n event m h

-- the events of a load, one after the other
module _ (n : ℕ) (one : 1 ≤ n) (most : n ≤ members_most) where
  events_lines : (state k : ℕ) → lines_of (event_lines (events_from n state k)) ≡ map event_text (events_from n state k)
  unfolding events_from event_lines lines_of
  events_lines state zero = refl
  events_lines state (suc k) =
      let event = (event_from n state).event in
      let plain = event_plain n event most (chosen_within n state one) in
      line_then (event_fields event) (event_lines (events_from n (event_from n state).state k)) (all_solid (event_fields event) plain)
      ∙ ap (λ (l : List (List ℕ)). event_text event ∷ l) (events_lines (event_from n state).state k)

  events_mean : (state k : ℕ) → map (λ event. event_of (event_text event)) (events_from n state k) ≡ map Some (events_from n state k)
  unfolding events_from
  events_mean state zero = refl
  events_mean state (suc k) = rw (line_means n (event_from n state).event most (chosen_within n state one), events_mean (event_from n state).state k)

pub load_plays : LoadPlays
unfolding load_of opening_form opening_with opened letter_of is_letter when◌then◌else◌
load_plays seed n group k one most g =
    let plain : AllPlain (opening_fields n group) = (letter_plain (code "N") (omega arith), (decimal_plain n (omega arith), (decimal_plain group g, tt))) in
    record {
      lines =
          line_then (opening_fields n group) (event_lines (events_from n seed k)) (all_solid (opening_fields n group) plain)
          ∙ ap (λ (l : List (List ℕ)). opening_text n group ∷ l) (events_lines n one most seed k);
      opens = opening_by (opening_fields n group) (omega arith) (omega arith) plain ∙ rw (number_back n (omega arith), number_back group g);
      means = events_mean n one most seed k;
    }
