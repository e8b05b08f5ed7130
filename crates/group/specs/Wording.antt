-- An answer as the paper words it: a refusal is the number of the question that said no; any other answer is a word and its
-- values. Each answer of the library has one definition that gives its wording; promises, printing and codes go by it.
use Rattle.std.specs.Prelude.{Bool, List, [], ◌∷◌, ℕ, Ok, Err}
use Prim.Native.String.{String}
use Rattle.group.specs.Refusal.{number_of}
use Rattle.group.specs.declared.Refusal.{Refusal}
use Rattle.group.specs.Opening.{Opened}
use Rattle.group.specs.Question.{Verdict}

-- a number (of a message, a member, a count, ..), the payload that was handed out, whether the following number is held, and
-- the packet that was written, or the one that was written if one was; payload and packet lie at the front of the lent output
pub data Value : Type 0 where
  number : ℕ → Value
  payload : Value
  more : Bool → Value
  packet : Value
  any_packet : Value

pub data Wording : Type 0 where
  refusal : ℕ → Wording
  word : String → List Value → Wording

-- a refusal, by its question
abbrev pub refused_wording : Refusal → Wording
refused_wording r = refusal (number_of r)

-- what a list of questions comes to
unfoldable pub verdict_wording : Verdict → Wording
verdict_wording (Ok _) = word "accepted" []
verdict_wording (Err r) = refused_wording r

-- what opening a group answers: n, the group number and the resilience degree
unfoldable pub opened_wording : Opened → Wording
opened_wording (Ok group) = word "open" (number group.n ∷ number group.number ∷ number group.resilience ∷ [])
opened_wording (Err r) = refused_wording r
