-- A sound frame has at most the limit's members; an entry that is set with its own count keeps it. Assumes nothing.
use mathlib.Core.Path.{◌≡◌, refl}
use mathlib.Core.Bool.{true}
use mathlib.Core.List.{List, [], ◌∷◌}
use Prim.Native.Nat.{ℕ, zero, suc, ◌≤◌}
use lib.ListN.{get_or, set}
use Rattle.group.specs.Limits.{members_most}
use Rattle.group.specs.declared.Group.{Group}
use Rattle.group.specs.Members.{group_sound}
use Rattle.group.proofs.Choice.{both_first}
use Rattle.group.proofs.Members.{standing_of}
use Rattle.history.specs.Sound.{frame_sound}
use Rattle.history.specs.State.{Acknowledgement, no_acknowledgement}

pub frame_members : (group : Group) (table : List Acknowledgement) (floor accepted top : ℕ) → frame_sound group table floor accepted top ≡ true
    → (1 ≤ group.n) × (group.n ≤ members_most)
unfolding frame_sound
frame_members group table floor accepted top e =
    let s = standing_of group (both_first (group_sound group) _ e) in
    (s.n_least, s.n_most)

pub set_count : (l : List Acknowledgement) (j : ℕ) (x : Acknowledgement) → x.count ≡ (get_or l j no_acknowledgement).count → (get_or (set l j x) j no_acknowledgement).count ≡ (get_or l j no_acknowledgement).count
set_count [] j x e = refl
set_count (y ∷ l) zero x e = e
set_count (y ∷ l) (suc j) x e = set_count l j x e
