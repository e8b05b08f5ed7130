-- What each answer prints, computed: the output of document 01's schedule among it. Assumes nothing.
use mathlib.Core.Path.{◌≡◌, refl}
use mathlib.Core.Bool.{true, false}
use mathlib.Core.List.{[], ◌∷◌, map}
use Rattle.group.specs.Choice.{when◌then◌else◌}
use Rattle.group.specs.declared.Refusal.TheVariants.{OtherEnd, Opening, Resilience}
use Rattle.member.specs.declared.Answer.TheVariants as member
use Rattle.member.specs.Wording as memberWording
use Rattle.model.specs.World.{Answer, absent, by_sequencer, by_member}
use Rattle.sequencer.specs.declared.Answer as sequencerAnswer
use Rattle.sequencer.specs.declared.Answer.TheVariants as sequencer
use Rattle.sequencer.specs.Wording as sequencerWording
use Rattle.text.specs.Text.{text_of, glyph_of}
use Rattle.text.specs.Written.{decimal_digits, decimal_of, hex_of, payload_text, spaced}
use Rattle.report.specs.Print.{more_text, index_text, values_text, wording_fields, answer_fields, line_of, bad_line, no_space, bad_opening, refused_opening, last_line}

-- the document's schedule
schedule : line_of 1 (by_member member.Sent []) 0
    ∷ line_of 2 (by_sequencer (sequencer.Numbered (record { 0 = 1 })) []) 1
    ∷ line_of 3 (by_member member.Kept []) 2
    ∷ line_of 4 (by_member (member.Took (record { 0 = 1 }) (record { 0 = 1 }) 1 false) (0x61 ∷ 0x62 ∷ [])) 2
    ∷ line_of 5 (by_member member.None []) 2
    ∷ last_line 1 0 (0 ∷ 1 ∷ [])
    ∷ []
    ≡ map text_of ("1 sent 0\n" ∷ "2 numbered 1 1\n" ∷ "3 kept\n" ∷ "4 took 1 1 1 6162 last\n" ∷ "5 none\n" ∷ "top 1 floor 0 taken 0 1\n" ∷ [])
unfolding answer_fields wording_fields values_text index_text sequencerWording.wording_of memberWording.wording_of spaced decimal_of decimal_digits glyph_of payload_text hex_of more_text when◌then◌else◌
schedule = refl

-- every other answer
answers : map (λ (answer : Answer). line_of 10 answer 199)
    (absent
    ∷ by_sequencer (sequencer.Refused OtherEnd) []
    ∷ by_sequencer sequencer.Old []
    ∷ by_sequencer (sequencer.Again (record { 0 = 42 })) []
    ∷ by_sequencer sequencer.Full []
    ∷ by_sequencer sequencer.Noted []
    ∷ by_sequencer (sequencer.Wanted (record { 0 = 1 }) (record { 0 = 8 })) []
    ∷ by_sequencer sequencer.Sent []
    ∷ by_sequencer sequencer.Marked []
    ∷ by_sequencer sequencerAnswer.Answer.Accepted (8 ∷ [])
    ∷ by_member (member.Refused OtherEnd) []
    ∷ by_member member.Old []
    ∷ by_member member.Old (7 ∷ [])
    ∷ by_member member.Kept (7 ∷ [])
    ∷ by_member member.Noted []
    ∷ by_member member.Noted (10 ∷ [])
    ∷ by_member member.KeptGap []
    ∷ by_member member.Beyond []
    ∷ by_member member.BeyondGap []
    ∷ by_member member.Gap []
    ∷ by_member member.Status []
    ∷ by_member (member.Took (record { 0 = 20 }) (record { 0 = 15 }) 30 true) []
    ∷ [])
    ≡ map text_of
    ("10 absent\n"
    ∷ "10 refused 8\n"
    ∷ "10 old\n"
    ∷ "10 again 42 199\n"
    ∷ "10 full 199\n"
    ∷ "10 noted\n"
    ∷ "10 wanted 1 8\n"
    ∷ "10 sent 199\n"
    ∷ "10 marked\n"
    ∷ "10 accepted 199\n"
    ∷ "10 refused 8\n"
    ∷ "10 old\n"
    ∷ "10 old 199\n"
    ∷ "10 kept 199\n"
    ∷ "10 noted\n"
    ∷ "10 noted 199\n"
    ∷ "10 keptgap 199\n"
    ∷ "10 beyond\n"
    ∷ "10 beyondgap 199\n"
    ∷ "10 gap 199\n"
    ∷ "10 status 199\n"
    ∷ "10 took 20 15 30 - more\n"
    ∷ [])
unfolding answer_fields wording_fields values_text index_text sequencerWording.wording_of memberWording.wording_of spaced decimal_of decimal_digits glyph_of payload_text hex_of more_text when◌then◌else◌
answers = refl

-- the lines without an answer
notes : bad_line 7 ∷ no_space 201 ∷ bad_opening ∷ refused_opening Opening ∷ refused_opening Resilience ∷ [] ≡ map text_of ("7 bad line\n" ∷ "201 no space\n" ∷ "bad line\n" ∷ "refused 18\n" ∷ "refused 24\n" ∷ [])
unfolding wording_fields spaced decimal_of decimal_digits glyph_of when◌then◌else◌
notes = refl
