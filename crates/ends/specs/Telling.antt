-- What a call tells: the code and the numbers of its answer, by the one definition of its wording, and how many bytes it wrote.
use Rattle.std.specs.Prelude.{◌≡◌, ℕ, get_or}
use Rattle.group.specs.Codes.{code_of, numbers_of, more_of}
use Rattle.group.specs.Wording.{Wording, verdict_wording}
use Rattle.group.specs.Question.{Verdict}
use Rattle.sequencer.specs.Wording as sequencer
use Rattle.sequencer.specs.declared.Reply as SequencerReply
use Rattle.member.specs.Wording as member
use Rattle.member.specs.declared.Reply as MemberReply
use Rattle.ends.specs.declared.Told.{Told}

-- an answer, and how many bytes it wrote
unfoldable pub told_of : Wording → ℕ → Told
told_of w written =
    record {
      code = code_of w;
      first = get_or (numbers_of w) 0 0;
      second = get_or (numbers_of w) 1 0;
      third = get_or (numbers_of w) 2 0;
      more = more_of w;
      written = written;
    }

-- a reply of the sequencer, of a member, and the verdict of an opening, which writes nothing
abbrev pub sequencer_told : SequencerReply.Reply → Told
sequencer_told reply = told_of (sequencer.wording_of reply.answer) reply.written

abbrev pub member_told : MemberReply.Reply → Told
member_told reply = told_of (member.wording_of reply.answer) reply.written

abbrev pub opening_told : Verdict → Told
opening_told verdict = told_of (verdict_wording verdict) 0

-- what is told of a reply or a verdict
abbrev pub SequencerTells : SequencerReply.Reply → Told → Type 0
SequencerTells reply told = told ≡ sequencer_told reply

abbrev pub MemberTells : MemberReply.Reply → Told → Type 0
MemberTells reply told = told ≡ member_told reply

abbrev pub OpeningTells : Verdict → Told → Type 0
OpeningTells verdict told = told ≡ opening_told verdict
