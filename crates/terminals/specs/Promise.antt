-- What each call promises of the parts that it is lent, whatever the others are.
use Rattle.std.specs.Prelude.{List, ◌≡◌, ℕ}
use Rattle.group.specs.declared.SequenceNumber.{SequenceNumber}
use Rattle.group.specs.Question.{Verdict}
use Rattle.member.specs.declared.Reply as member
use Rattle.sequencer.specs.declared.Reply as sequencer
use Rattle.recovery.specs.Promise as promise
use Rattle.recovery.specs.View.{whole, view_of}
use Rattle.recovery.specs.declared.Head.{Head}
use Rattle.terminals.specs.Steps.{end_verdict}

-- the member's calls look at no array of the sequencer
abbrev pub Submits : Head → List ℕ → List ℕ → List ℕ → List ℕ → List ℕ → List ℕ → List ℕ → List ℕ → List ℕ → List ℕ → List ℕ → List ℕ → List ℕ → List ℕ → List ℕ → List ℕ → member.Reply → Head → List ℕ → List ℕ → List ℕ → List ℕ → List ℕ → List ℕ → List ℕ → List ℕ → List ℕ → Type 0
Submits head queued held queued_originators queued_lengths held_originators held_lengths queued_payloads held_payloads past past_originators past_lengths past_payloads highest replies payload before reply head' queued' held' queued_originators' queued_lengths' held_originators' held_lengths' queued_payloads' held_payloads' after =
    (taken counts repeats kept marks originators lengths payloads : List ℕ)
    → promise.Submitted (whole head queued held queued_originators queued_lengths held_originators held_lengths queued_payloads held_payloads past past_originators past_lengths past_payloads highest replies taken counts repeats kept marks originators lengths payloads) payload before reply (whole head' queued' held' queued_originators' queued_lengths' held_originators' held_lengths' queued_payloads' held_payloads' past past_originators past_lengths past_payloads highest replies taken counts repeats kept marks originators lengths payloads) after

abbrev pub Repeats : Head → List ℕ → List ℕ → List ℕ → List ℕ → List ℕ → List ℕ → List ℕ → List ℕ → List ℕ → List ℕ → List ℕ → List ℕ → List ℕ → List ℕ → List ℕ → member.Reply → List ℕ → Type 0
Repeats head queued held queued_originators queued_lengths held_originators held_lengths queued_payloads held_payloads past past_originators past_lengths past_payloads highest replies before reply after =
    (taken counts repeats kept marks originators lengths payloads : List ℕ)
    → promise.Repeated (whole head queued held queued_originators queued_lengths held_originators held_lengths queued_payloads held_payloads past past_originators past_lengths past_payloads highest replies taken counts repeats kept marks originators lengths payloads) before reply (whole head queued held queued_originators queued_lengths held_originators held_lengths queued_payloads held_payloads past past_originators past_lengths past_payloads highest replies taken counts repeats kept marks originators lengths payloads) after

abbrev pub Reports : Head → List ℕ → List ℕ → List ℕ → List ℕ → List ℕ → List ℕ → List ℕ → List ℕ → List ℕ → List ℕ → List ℕ → List ℕ → List ℕ → List ℕ → List ℕ → member.Reply → List ℕ → Type 0
Reports head queued held queued_originators queued_lengths held_originators held_lengths queued_payloads held_payloads past past_originators past_lengths past_payloads highest replies before reply after =
    (taken counts repeats kept marks originators lengths payloads : List ℕ)
    → promise.Reported (whole head queued held queued_originators queued_lengths held_originators held_lengths queued_payloads held_payloads past past_originators past_lengths past_payloads highest replies taken counts repeats kept marks originators lengths payloads) before reply (whole head queued held queued_originators queued_lengths held_originators held_lengths queued_payloads held_payloads past past_originators past_lengths past_payloads highest replies taken counts repeats kept marks originators lengths payloads) after

-- a take looks at none of them either, and leaves the arrays of the last messages taken
abbrev pub Takes : Head → List ℕ → List ℕ → List ℕ → List ℕ → List ℕ → List ℕ → List ℕ → List ℕ → List ℕ → List ℕ → List ℕ → List ℕ → List ℕ → List ℕ → List ℕ → member.Reply → Head → List ℕ → List ℕ → List ℕ → List ℕ → List ℕ → List ℕ → List ℕ → List ℕ → List ℕ → List ℕ → List ℕ → List ℕ → List ℕ → List ℕ → Type 0
Takes head queued held queued_originators queued_lengths held_originators held_lengths queued_payloads held_payloads past past_originators past_lengths past_payloads highest replies before reply head' queued' held' queued_originators' queued_lengths' held_originators' held_lengths' queued_payloads' held_payloads' past' past_originators' past_lengths' past_payloads' highest' after =
    (taken counts repeats kept marks originators lengths payloads : List ℕ)
    → promise.Taken (whole head queued held queued_originators queued_lengths held_originators held_lengths queued_payloads held_payloads past past_originators past_lengths past_payloads highest replies taken counts repeats kept marks originators lengths payloads) before reply (whole head' queued' held' queued_originators' queued_lengths' held_originators' held_lengths' queued_payloads' held_payloads' past' past_originators' past_lengths' past_payloads' highest' replies taken counts repeats kept marks originators lengths payloads) after

-- questions 1 and 2 of the member's end
abbrev pub Asks : Head → List ℕ → List ℕ → List ℕ → List ℕ → List ℕ → List ℕ → List ℕ → List ℕ → List ℕ → List ℕ → List ℕ → List ℕ → List ℕ → List ℕ → ℕ → Verdict → Type 0
Asks head queued held queued_originators queued_lengths held_originators held_lengths queued_payloads held_payloads past past_originators past_lengths past_payloads highest replies room verdict =
    (taken counts repeats kept marks originators lengths payloads : List ℕ) → verdict ≡ end_verdict (view_of (whole head queued held queued_originators queued_lengths held_originators held_lengths queued_payloads held_payloads past past_originators past_lengths past_payloads highest replies taken counts repeats kept marks originators lengths payloads)) room

-- nor does a packet that is of no reset, and it leaves the member's arrays
abbrev pub Hears : Head → List ℕ → List ℕ → List ℕ → List ℕ → List ℕ → List ℕ → List ℕ → List ℕ → List ℕ → List ℕ → List ℕ → List ℕ → List ℕ → List ℕ → List ℕ → List ℕ → member.Reply → Head → List ℕ → List ℕ → List ℕ → List ℕ → List ℕ → List ℕ → List ℕ → List ℕ → List ℕ → Type 0
Hears head queued held queued_originators queued_lengths held_originators held_lengths queued_payloads held_payloads past past_originators past_lengths past_payloads highest replies packet before reply head' queued' held' queued_originators' queued_lengths' held_originators' held_lengths' queued_payloads' held_payloads' after =
    (taken counts repeats kept marks originators lengths payloads : List ℕ)
    → promise.Received (whole head queued held queued_originators queued_lengths held_originators held_lengths queued_payloads held_payloads past past_originators past_lengths past_payloads highest replies taken counts repeats kept marks originators lengths payloads) packet before reply (whole head' queued' held' queued_originators' queued_lengths' held_originators' held_lengths' queued_payloads' held_payloads' past past_originators past_lengths past_payloads highest replies taken counts repeats kept marks originators lengths payloads) after

-- and its sequencer's at no array of the member
abbrev pub Polls : Head → List ℕ → List ℕ → List ℕ → List ℕ → List ℕ → List ℕ → List ℕ → List ℕ → List ℕ → sequencer.Reply → List ℕ → Type 0
Polls head taken counts repeats kept marks originators lengths payloads before reply after =
    (queued held queued_originators queued_lengths held_originators held_lengths queued_payloads held_payloads past past_originators past_lengths past_payloads highest replies : List ℕ)
    → promise.Polled (whole head queued held queued_originators queued_lengths held_originators held_lengths queued_payloads held_payloads past past_originators past_lengths past_payloads highest replies taken counts repeats kept marks originators lengths payloads) before reply (whole head queued held queued_originators queued_lengths held_originators held_lengths queued_payloads held_payloads past past_originators past_lengths past_payloads highest replies taken counts repeats kept marks originators lengths payloads) after

abbrev pub Copies : Head → List ℕ → List ℕ → List ℕ → List ℕ → List ℕ → List ℕ → List ℕ → List ℕ → SequenceNumber → List ℕ → sequencer.Reply → List ℕ → Type 0
Copies head taken counts repeats kept marks originators lengths payloads number before reply after =
    (queued held queued_originators queued_lengths held_originators held_lengths queued_payloads held_payloads past past_originators past_lengths past_payloads highest replies : List ℕ)
    → promise.Copied (whole head queued held queued_originators queued_lengths held_originators held_lengths queued_payloads held_payloads past past_originators past_lengths past_payloads highest replies taken counts repeats kept marks originators lengths payloads) number before reply (whole head queued held queued_originators queued_lengths held_originators held_lengths queued_payloads held_payloads past past_originators past_lengths past_payloads highest replies taken counts repeats kept marks originators lengths payloads) after

abbrev pub Orders : Head → List ℕ → List ℕ → List ℕ → List ℕ → List ℕ → List ℕ → List ℕ → List ℕ → List ℕ → List ℕ → sequencer.Reply → Head → List ℕ → List ℕ → List ℕ → List ℕ → List ℕ → List ℕ → List ℕ → List ℕ → List ℕ → Type 0
Orders head taken counts repeats kept marks originators lengths payloads packet before reply head' taken' counts' repeats' kept' marks' originators' lengths' payloads' after =
    (queued held queued_originators queued_lengths held_originators held_lengths queued_payloads held_payloads past past_originators past_lengths past_payloads highest replies : List ℕ)
    → promise.OrderedBy (whole head queued held queued_originators queued_lengths held_originators held_lengths queued_payloads held_payloads past past_originators past_lengths past_payloads highest replies taken counts repeats kept marks originators lengths payloads) packet before reply (whole head' queued held queued_originators queued_lengths held_originators held_lengths queued_payloads held_payloads past past_originators past_lengths past_payloads highest replies taken' counts' repeats' kept' marks' originators' lengths' payloads') after
