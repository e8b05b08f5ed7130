-- The invariant of the whole group: the parts that the ends' crates state, joined. Assumes nothing.
use mathlib.Core.Path.{◌≡◌}
use mathlib.Core.Bool.{true}
use mathlib.Core.List.{List}
use Prim.Native.Nat.{ℕ, ◌<◌}
use lib.ListN.{length, get_or}
use Rattle.group.proofs.Lists.{All}
use Rattle.group.specs.Members.{is_in}
use Rattle.group.specs.declared.Group as description
use Rattle.member.proofs.Invariant.{voice_of, Terminal}
use Rattle.member.specs.State.{Member, reach_of, acknowledged_of}
use Rattle.message.specs.Order.{Ordered}
use Rattle.model.specs.Log.{order, taken, submitted}
use Rattle.model.specs.World.{Group, World, no_member}
use Rattle.packet.proofs.Facts.{Voice, Facts, Known}
use Rattle.history.proofs.Soundness.{taken_in}
use Rattle.sequencer.proofs.Invariant.{SequencerInv, Confirmed, facts_of}

-- the last number that member i took
abbrev pub taken_of : List Member → ℕ → ℕ
taken_of members i = (get_or members i no_member).taken.0

-- the number that it acknowledges
abbrev pub acknowledged_in : List Member → ℕ → ℕ
acknowledged_in members i = (acknowledged_of (get_or members i no_member)).0

-- its reach
abbrev pub reach_in : List Member → ℕ → ℕ
reach_in members i = reach_of (get_or members i no_member)

-- what it can say of itself, where `submitted` are each terminal's submissions
abbrev pub voice_in : List Member → (ℕ → List (List ℕ)) → ℕ → Voice
voice_in members submitted i = voice_of (get_or members i no_member) (submitted i)

-- what the group's packets can speak of
abbrev pub facts_in : description.Group → Group → List Ordered → (ℕ → List (List ℕ)) → Facts
facts_in group w ord sb = facts_of group ord w.sequencer.accepted.0 (voice_in w.members sb)

-- the group under an order, what each terminal took, and what it submitted
pub record Inv (group : description.Group) (w : Group) (ord : List Ordered) (tk : ℕ → List Ordered) (sb : ℕ → List (List ℕ)) : Type 0 where
  -- all members survive
  pub everybody : (i : ℕ) → i < group.n → is_in group.survivors i ≡ true
  pub sequencer : SequencerInv group w.sequencer ord
  pub confirmed : Confirmed group w.sequencer (reach_in w.members)
  pub members : length w.members ≡ group.n
  pub terminal : (i : ℕ) → i < group.n
      → Terminal group i (taken_in w.sequencer.acknowledgements i) w.sequencer.accepted.0 (get_or w.members i no_member) ord (tk i) (sb i)
  pub packets : All (Known group.number (facts_in group w ord sb)) w.packets

-- the same where the three are read off the log
abbrev pub WorldInv : description.Group → World → Type 0
WorldInv group w = Inv group w.group (order w.log) (λ i. taken i w.log) (λ i. submitted i w.log)
