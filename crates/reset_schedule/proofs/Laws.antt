-- The laws of specs/Laws.antt. A payload is at most half as long as its field, and the fields of a line are no longer than
-- the line. Assumes nothing.
use mathlib.Core.Path.{◌≡◌, refl, sym, ap, ◌∙◌}
use mathlib.Core.List.{List, [], ◌∷◌}
use Rattle.std.specs.Prelude.{Option, None, Some}
use Prim.Native.Char.{code}
use Prim.Native.Nat.{ℕ, ◌/◌, ◌≤◌, zero-le}
use native.Mathlib.Omega.{arith}
use lib.ListN.{length, drop}
use lib.Seq.{take_at}
use Rattle.group.specs.Choice.{◌≤?◌}
use Rattle.group.proofs.Lists.{when_elim}
use borrow.Author.Tests.{leb-true}
use Rattle.reset.specs.World.{Event, submit, repeat, take, status, poll, copy, hand_member, hand_sequencer, invite, make}
use Rattle.schedule.specs.Line.{line_most, payload_room}
use Rattle.schedule.proofs.Laws.{total, fields_total, hex_half}
use Rattle.text.specs.Field.{fields_of, letter_of, is_letter, number_in, is_hex, hex_in}
use Rattle.reset_schedule.specs.Line.{submitted, with_two, form_of, event_of, command_of, payload_of}
use Rattle.reset_schedule.specs.Laws.{meant_by, CommandMeans, SubmitFits}
use Rattle.reset_schedule.specs.declared.Command.{Command}
use Rattle.reset_schedule.specs.declared.Command.TheVariants.{Submit, Repeat, Take, Status, Poll, Copy, HandMember, HandSequencer, Invite, Make}
use Rattle.reset_schedule.proofs.Forms.{number_payload, numbers_payload}

pub command_means : CommandMeans
unfolding meant_by command_of payload_of
command_means None lent = refl
command_means (Some (submit i payload)) lent = ap (λ (p : List ℕ). Some (submit i p)) (take_at payload (drop (length payload) lent) (length payload) refl)
command_means (Some (repeat i)) lent = refl
command_means (Some (take i)) lent = refl
command_means (Some (status i)) lent = refl
command_means (Some (poll i)) lent = refl
command_means (Some (copy i number)) lent = refl
command_means (Some (hand_member k i)) lent = refl
command_means (Some (hand_sequencer k i)) lent = refl
command_means (Some (invite i number)) lent = refl
command_means (Some (make i demand)) lent = refl

-- a payload of two digits a byte
submit_half : (i : Option ℕ) (field : List ℕ) → length (payload_of (submitted i (hex_in field))) ≤ length field / 2
unfolding submitted payload_of
submit_half None field = zero-le
submit_half (Some i) field =
    when_elim (λ (payload : Option (List ℕ)). length (payload_of (submitted (Some i) payload)) ≤ length field / 2) (is_hex field) (λ t. hex_half field) (λ t. zero-le)

two_half : (letter : Option ℕ) (a b : List ℕ) → length (payload_of (with_two letter a b)) ≤ length b / 2
unfolding with_two
two_half letter a b =
    let half : Option Event → Type 0 = λ event. length (payload_of event) ≤ length b / 2 in
    when_elim half (is_letter (code "S") letter) (λ t. submit_half (number_in a) b)
    (λ t. rw (numbers_payload letter (number_in a) (number_in b)) zero-le)

form_half : (fields : List (List ℕ)) → length (payload_of (form_of fields)) ≤ total fields / 2
unfolding form_of payload_of total
form_half [] = zero-le
form_half (name ∷ []) = zero-le
form_half (name ∷ (a ∷ [])) = rw (number_payload (letter_of name) (number_in a)) zero-le
form_half (name ∷ (a ∷ (b ∷ []))) = let h = two_half (letter_of name) a b in omega arith
form_half (name ∷ (a ∷ (b ∷ (c ∷ rest)))) = zero-le

payload_fits_lem : (line : List ℕ) → length (payload_of (event_of line)) ≤ payload_room
unfolding event_of payload_of
payload_fits_lem line =
    let h = form_half (fields_of line) in
    let f = fields_total line in
    when_elim (λ (event : Option Event). length (payload_of event) ≤ payload_room) (length line ≤? line_most)
    (λ t. let n = leb-true (length line) line_most t in omega arith)
    (λ t. zero-le)

-- a command tells its payload's length
unfoldable size_of : Option Command → ℕ
size_of None = 0
size_of (Some (Submit i size)) = size
size_of (Some (Repeat i)) = 0
size_of (Some (Take i)) = 0
size_of (Some (Status i)) = 0
size_of (Some (Poll i)) = 0
size_of (Some (Copy i number)) = 0
size_of (Some (HandMember k i)) = 0
size_of (Some (HandSequencer k i)) = 0
size_of (Some (Invite i number)) = 0
size_of (Some (Make i demand)) = 0

size_told : (event : Option Event) → size_of (command_of event) ≡ length (payload_of event)
unfolding size_of command_of payload_of
size_told None = refl
size_told (Some (submit i payload)) = refl
size_told (Some (repeat i)) = refl
size_told (Some (take i)) = refl
size_told (Some (status i)) = refl
size_told (Some (poll i)) = refl
size_told (Some (copy i number)) = refl
size_told (Some (hand_member k i)) = refl
size_told (Some (hand_sequencer k i)) = refl
size_told (Some (invite i number)) = refl
size_told (Some (make i demand)) = refl

pub submit_fits : SubmitFits
unfolding size_of
submit_fits line i size e =
    let n : size ≡ length (payload_of (event_of line)) = ap size_of (sym e) ∙ size_told (event_of line) in
    let h = payload_fits_lem line in
    omega arith
