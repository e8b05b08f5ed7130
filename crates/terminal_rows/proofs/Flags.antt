-- The flags of a head that is read. Assumes nothing.
use mathlib.Core.Path.{◌≡◌, refl, sym}
use mathlib.Core.Bool.{true}
use mathlib.Core.List.{List}
use Prim.Native.Nat.{ℕ}
use lib.ListN.{get_or}
use Rattle.group.proofs.Choice.{both_hold}
use Rattle.group.proofs.Lists.{when_elim}
use Rattle.group.specs.Choice.{◌≤?◌, ◌=?◌}
use Rattle.recovery.specs.View.{flags_sound}
use Rattle.terminal_rows.specs.Heads.{flag_of, head_in}

-- a flag that is read is 0 or 1, and set if the stored one is
flag_small : (stored : ℕ) → (flag_of stored ≤? 1) ≡ true
unfolding flag_of
flag_small stored = when_elim (λ (x : ℕ). (x ≤? 1) ≡ true) (stored =? 1) (λ _. refl) (λ _. refl)

pub flag_same : (stored : ℕ) → (flag_of stored =? 1) ≡ (stored =? 1)
unfolding flag_of
flag_same stored = when_elim (λ (x : ℕ). (x =? 1) ≡ (stored =? 1)) (stored =? 1) (λ yes. sym yes) (λ no. sym no)

-- whatever the rows hold, the flags of the head are sound
pub flags_sound_lem : (small masks numbers : List ℕ) → flags_sound (head_in small masks numbers) ≡ true
unfolding flags_sound
flags_sound_lem small masks numbers =
    both_hold _ _ (flag_small (get_or small 7 0))
    (both_hold _ _ (flag_small (get_or small 8 0)) (both_hold _ _ (flag_small (get_or small 9 0)) (flag_small (get_or small 10 0))))
