-- A list of questions, and its first no: how demand 1 says which input is refused, and with which number.
use Rattle.std.specs.Prelude.{Bool, List, [], ◌∷◌, Result, Ok, Err, ⊤}
use Rattle.group.specs.Choice.{ask◌or◌then◌}
use Rattle.group.specs.declared.Refusal.{Refusal}

-- what a list of questions comes to: every answer is yes, or the first no
abbrev pub Verdict : Type 0
Verdict = Result ⊤ Refusal

-- every answer is yes
abbrev pub all_yes : Verdict
all_yes = Ok (record {})

-- whether the answer is yes, and what is refused where it is no
pub record Question : Type 0 where
  pub yes : Bool
  pub refusal : Refusal

-- the first question that says no
unfoldable pub first_no : List Question → Verdict
first_no [] = all_yes
first_no (q ∷ rest) = ask q.yes or Err q.refusal then first_no rest

-- what a verdict comes to, where `refused` says what a refusal answers and `otherwise` what the step does
unfoldable pub judged : {A : Type 0} → Verdict → (Refusal → A) → A → A
judged (Ok _) refused otherwise = otherwise
judged (Err r) refused otherwise = refused r
