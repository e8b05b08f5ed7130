-- No answer of the sequencer hands out a payload, and each tells whether a packet was written: its fields are the same whatever
-- was written. Assumes nothing.
use mathlib.Core.Path.{◌≡◌, refl}
use mathlib.Core.List.{List}
use Prim.Native.Nat.{ℕ}
use Rattle.sequencer.specs.Wording.{wording_of}
use Rattle.sequencer.specs.declared.Answer.{Answer}
use Rattle.sequencer.specs.declared.Answer.TheVariants.{Refused, Old, Again, Full, Numbered, Noted, Wanted, Sent, Marked}
use Rattle.report.specs.Print.{values_text, wording_fields}

pub same_wording : (answer : Answer) (bytes others : List ℕ) (index : ℕ) → wording_fields (wording_of answer) bytes index ≡ wording_fields (wording_of answer) others index
unfolding wording_of wording_fields values_text
same_wording (Refused r) bytes others index = refl
same_wording Old bytes others index = refl
same_wording (Again s) bytes others index = refl
same_wording Full bytes others index = refl
same_wording (Numbered s) bytes others index = refl
same_wording Noted bytes others index = refl
same_wording (Wanted first last) bytes others index = refl
same_wording Sent bytes others index = refl
same_wording Marked bytes others index = refl
same_wording Answer.Accepted bytes others index = refl
