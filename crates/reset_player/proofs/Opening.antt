-- The first line, a group that is opened, and the state of a player. Assumes nothing.
use Rattle.group.specs.Question.{all_yes}
use Rattle.std.specs.Prelude.{Err}
use mathlib.Core.Path.{◌≡◌, refl, sym, ap, ◌∙◌, subst}
use mathlib.Core.List.{List, [], ◌++◌}
use Rattle.std.specs.Prelude.{None, Some}
use Prim.Native.Nat.{ℕ, ◌+◌, ◌≤◌, ◌<◌}
use native.Mathlib.Omega.{arith}
use lib.ListN.{length, take}
use Rattle.group.proofs.Choice.{when_lt, when_nlt}
use Rattle.group.proofs.Lists.{le_or}
use Rattle.group.specs.Limits.{members_most}
use Rattle.group.specs.Question.{judged}
use Rattle.group.specs.declared.Refusal.{Refusal}
use Rattle.group.specs.Question.{Verdict}
use Rattle.player.proofs.Opening.{opening_at, many_refused, first, degree_refused}
use Rattle.player.proofs.Parts as parts
use Rattle.player.specs.Parts.{kept_of, told_as}
use Rattle.player.specs.Player.{degree_of}
use Rattle.player.specs.declared.Phase.{Phase}
use Rattle.player.specs.declared.Phase.TheVariants.{Running}
use Rattle.reset.specs.World.{Group, fresh}
use Rattle.reset_simulator.specs.Whole.{group_of, Whole, Opens}
use Rattle.reset_simulator.specs.declared.World.{World}
use Rattle.sequencer.specs.Calls.{fresh_of}
use Rattle.text.specs.Field.{line_end}
use Rattle.reset_player.specs.Feed as feed
use Rattle.reset_player.specs.Feed.{State, fed_of, end_of}
use Rattle.reset_player.specs.Player.{stage_in, phase_of, Does}
use Rattle.reset_output.specs.Recover.{running, Told, refused_told, open_told, line_told}
use Rattle.reset_player.specs.Steps.{Fits, Tells}
use Rattle.reset_player.specs.declared.Fed.{Fed}
use Rattle.reset_player.specs.declared.Told as declared
use Rattle.reset_player.proofs.Telling.{phase_is}

module _ (n number resilience : ℕ) where
  pub told_refused : (refusal : Refusal) → (fresh_of n number resilience).verdict ≡ Err refusal → refused_told refusal ≡ open_told (opening_at n number resilience)
  unfolding open_told judged
  told_refused refusal e = ap (λ (v : Verdict). judged v refused_told (record { text = []; stage = running (fresh n number resilience).group 1 })) (sym e)

  pub told_many : members_most < n → refused_told Refusal.Opening ≡ open_told (opening_at n number resilience)
  told_many h = told_refused Refusal.Opening (many_refused n number resilience h)

  pub opened_refused : (verdict : Verdict) (world : World) (w : Whole) (refusal : Refusal) → Opens n number resilience verdict world w → verdict ≡ Err refusal → refused_told refusal ≡ open_told (opening_at n number resilience)
  opened_refused verdict world w refusal o e = told_refused refusal (sym o.verdict_is ∙ e)

  pub opened_group_lem : (verdict : Verdict) (world : World) (w : Whole) (told : declared.Told) (lent : List ℕ) → Opens n number resilience verdict world w → verdict ≡ all_yes
      → told.world ≡ world → told.phase ≡ Running → told.number ≡ 1 → told.written ≡ 0
      → Tells (open_told (opening_at n number resilience)) told w lent lent
  unfolding open_told judged stage_in
  opened_group_lem verdict world w told lent o e h p k z =
      let fits : Fits world = record { terminals = o.room.terminals; packets = let y = o.room.packets in omega arith } in
      let v : (fresh_of n number resilience).verdict ≡ all_yes = sym o.verdict_is ∙ e in
      let stage : stage_in (phase_of told.world told.phase) (group_of w) told.number ≡ running (fresh n number resilience).group 1 =
      ap (λ (x : Phase). stage_in (phase_of told.world x) (group_of w) told.number) p
      ∙ ap (λ (x : World). stage_in (phase_of x Running) (group_of w) told.number) h
      ∙ ap (λ (x : Phase). stage_in x (group_of w) told.number) (phase_is world Running fits)
      ∙ ap (λ (g : Group). running g told.number) (o.group e)
      ∙ ap (λ (j : ℕ). running (fresh n number resilience).group j) k in
      let t : Tells (record { text = []; stage = running (fresh n number resilience).group 1 }) told w lent lent = record { stage = stage; written = z; output = refl } in
      subst (λ (x : Told). Tells x told w lent lent)
      (ap (λ (x : Verdict). judged x refused_told (record { text = []; stage = running (fresh n number resilience).group 1 })) (sym v)) t

-- a degree as a byte opens what the number opens
pub told_degree : (n number resilience d : ℕ) → n ≤ members_most → d ≡ degree_of resilience → open_told (opening_at n number d) ≡ open_told (opening_at n number resilience)
unfolding degree_of
told_degree n number resilience d h is =
    le_or members_most resilience
    (λ k. let e : d ≡ members_most = is ∙ sym (when_nlt resilience members_most members_most resilience members_most k refl) in
    rw e (sym (told_refused n number members_most (first n number) (degree_refused n number members_most h)) ∙ told_refused n number resilience (first n number) (degree_refused n number resilience (omega arith))))
    (λ k. ap (λ (r : ℕ). open_told (opening_at n number r)) (is ∙ sym (when_lt resilience members_most resilience resilience members_most k refl)))

-- the end of the input, and a part of it
module _ (s : State) (r : Fed) (w : Whole) (bytes lent after : List ℕ) where
  abbrev Done : feed.Fed → Type 0
  Done told = Does told r w bytes lent after

  pub ends_none : length s.line ≡ 0 → Done (record { text = []; state = s; used = 0 }) → Done (end_of s)
  ends_none = parts.ends_none line_told Done s

  pub ends_told : (length s.line ≡ 0 → ⊥) → Done (told_as (line_told s.stage s.line) 0) → Done (end_of s)
  ends_told = parts.ends_told line_told Done s

  pub feeds_line : (part line : List ℕ) (e : ℕ) → line_end part ≡ Some e → line ≡ kept_of (s.line ++ take e part) → Done (told_as (line_told s.stage line) (e + 1)) → Done (fed_of s part)
  feeds_line = parts.feeds_line line_told Done s

  pub feeds_none : (part : List ℕ) → line_end part ≡ None → Done (record { text = []; state = record { stage = s.stage; line = kept_of (s.line ++ part) }; used = length part }) → Done (fed_of s part)
  feeds_none = parts.feeds_none line_told Done s
