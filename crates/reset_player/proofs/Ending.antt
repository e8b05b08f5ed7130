-- What is printed of a terminal at the end goes by its head. Assumes nothing.
use mathlib.Core.Path.{◌≡◌, refl, sym, ap, ◌∙◌}
use mathlib.Core.List.{List, []}
use Prim.Native.Nat.{ℕ}
use lib.ListN.{length, get_or}
use Rattle.group.proofs.Choice.{when_eq, when_ne}
use Rattle.group.specs.Choice.{◌=?◌}
use Rattle.group.specs.Lent.{front}
use Rattle.member.specs.View as member
use Rattle.recovery.specs.View.{terminal_of}
use Rattle.recovery.specs.declared.Head.{Head}
use Rattle.reset_report.specs.Print.{terminal_line, sequencer_line}
use Rattle.reset_simulator.specs.Whole.{terminal_at}
use Rattle.sequencer.specs.View as sequencer
use Rattle.terminal_rows.specs.Heads.{head_in}
use Rattle.reset_player.specs.Player.{LaysLast}
use Rattle.reset_output.specs.Recover.{member_told, sequencer_told}

-- its line, and its sequencer's
abbrev pub member_text : ℕ → Head → List ℕ
member_text i h = terminal_line i h.member.group.number h.member.taken.0 h.member.group.elected.0 h.member.group.survivors

abbrev pub sequencer_text : ℕ → Head → List ℕ
sequencer_text i h = sequencer_line i h.sequencer.group.number h.sequencer.top.0 h.sequencer.floor.0 (h.frozen =? 1)

-- what was laid, by a head whose rows these are
module _ (h : Head) (i : ℕ) (lent : List ℕ) (small masks numbers : List (List ℕ)) where
  abbrev Its : Type 0
  Its = h ≡ head_in (get_or small i []) (get_or masks i []) (get_or numbers i [])

  pub lays_member : (size : ℕ) (after : List ℕ) {text : List ℕ} → Its → text ≡ member_text i h → size ≡ length text → after ≡ front text lent → LaysLast member_told small masks numbers i size lent after
  unfolding terminal_at terminal_of member.view_of
  lays_member size after e t s a rows =
      let f = t ∙ ap (member_text i) e in
      record { size = s ∙ ap length f; lent = a ∙ ap (λ (bytes : List ℕ). front bytes lent) f }

  pub lays_sequencer : (size : ℕ) (after : List ℕ) {text : List ℕ} → Its → h.sequencing ≡ 1 → text ≡ sequencer_text i h → size ≡ length text → after ≡ front text lent
      → LaysLast sequencer_told small masks numbers i size lent after
  unfolding terminal_at terminal_of sequencer.view_of sequencer_told
  lays_sequencer size after e q t s a rows =
      let head = head_in (get_or small i []) (get_or masks i []) (get_or numbers i []) in
      let f = t ∙ ap (sequencer_text i) e ∙ when_eq head.sequencing 1 (sequencer_text i head) (sequencer_text i head) [] (sym (ap (λ (x : Head). x.sequencing) e) ∙ q) refl in
      record { size = s ∙ ap length f; lent = a ∙ ap (λ (bytes : List ℕ). front bytes lent) f }

  pub lays_none : Its → (h.sequencing ≡ 1 → ⊥) → LaysLast sequencer_told small masks numbers i 0 lent lent
  unfolding terminal_at terminal_of sequencer.view_of sequencer_told
  lays_none e q rows =
      let head = head_in (get_or small i []) (get_or masks i []) (get_or numbers i []) in
      let f = when_ne head.sequencing 1 [] (sequencer_text i head) [] (λ z. q (ap (λ (x : Head). x.sequencing) e ∙ z)) refl in
      record { size = ap length f; lent = ap (λ (bytes : List ℕ). front bytes lent) f }
