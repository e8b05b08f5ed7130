-- Question 1 of the whole terminal, part by part as the code asks it. Assumes nothing.
use mathlib.Core.Path.{◌≡◌, refl, sym, ap}
use mathlib.Core.Bool.{Bool, true, false}
use Prim.Native.Nat.{ℕ, ◌≤◌}
use Rattle.group.specs.Choice.{when◌then◌else◌, ◌and◌, ◌≤?◌, ◌=?◌}
use Rattle.group.specs.Limits.{members_most, largest_number}
use Rattle.group.specs.Members.{group_sound}
use Rattle.group.proofs.Choice.{both_first, both_then}
use Rattle.window.specs.Sound.{frame_sound}
use Rattle.member.specs.Sound as memberSoundness
use Rattle.member.specs.View as memberView
use Rattle.sequencer.specs.View as sequencerView
use Rattle.recovery.specs.Sound.{reset_sound, member_sound, sequencer_sound, reply_sound, terminal_sound}
use Rattle.recovery.specs.Steps.{beside_sound, sequencer_sound_in, serves_in, reply_sound_in}
use Rattle.recovery.specs.View.{Stored, member_in, sequencer_in, kept_in, terminal_of, flags_sound}
use Rattle.recovery.proofs.Begun.{reply_as}

never : (b : Bool) → b and false ≡ false
unfolding when◌then◌else◌
never true = refl
never false = refl

parts : (f n k r s q y : Bool) → (s ≡ true → n ≡ true) → f and ((s and (k and r)) and (q and y)) ≡ (f and (n and (k and r))) and (s and (q and y))
unfolding when◌then◌else◌
parts false n k r s q y h = refl
parts true n k r true q y h = let e = h refl in rw e
parts true n k r false q y h = sym (never (n and (k and r)))

-- a sound member's group has at most 16 members
small : (s : Stored) → memberSoundness.sound_of (memberView.view_of (member_in s)) ≡ true → (s.head.member.group.n ≤? members_most) ≡ true
unfolding memberSoundness.sound_of memberView.view_of frame_sound group_sound
small s e = both_first _ _ (both_then _ _ (both_first _ _ (both_first _ _ e)))

reply_sound_as : (s : Stored) → s.head.member.taken.0 ≤ largest_number → reply_sound_in s.head s.held ≡ reply_sound (terminal_of s)
unfolding reply_sound_in reply_sound terminal_of memberView.view_of sequencerView.view_of
reply_sound_as s most =
    ap (λ (x : ℕ). when s.head.replied =? 1 then (s.head.number.0 =? x and (when serves_in s.head then s.head.frozen =? 1 else true)) else true) (reply_as s most)

pub sound_parts : (s : Stored) → s.head.member.taken.0 ≤ largest_number
    → (beside_sound s.head (kept_in s.head s.past s.past_originators s.past_lengths s.past_payloads s.highest) s.replies
    and (memberSoundness.sound_of (memberView.view_of (member_in s)) and (sequencer_sound_in s.head (sequencerView.view_of (sequencer_in s)) and reply_sound_in s.head s.held)))
    ≡ (flags_sound s.head and terminal_sound (terminal_of s))
unfolding beside_sound terminal_sound member_sound sequencer_sound sequencer_sound_in terminal_of reset_sound memberView.view_of
sound_parts s most =
    rw (reply_sound_as s most)
    (sym (parts (flags_sound s.head) (s.head.member.group.n ≤? members_most) _ _ (memberSoundness.sound_of (memberView.view_of (member_in s))) _ _ (small s)))
