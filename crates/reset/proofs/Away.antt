-- Events that the group made last does not see: at a terminal that was left out, and any that leaves a terminal as it was. Assumes nothing.
use mathlib.Core.Path.{◌≡◌, sym, ap, ◌∙◌, subst, fun_ext}
use mathlib.Core.Logic.{◌≢◌}
use mathlib.Core.Bool.{true, false, false≢true}
use mathlib.Core.List.{List, [], ◌∷◌, ◌++◌, append-nil}
use Prim.Native.Nat.{ℕ, ◌≤◌, ◌<◌}
use native.Mathlib.Nat.{le_refl}
use Rattle.group.proofs.Lists.{All, all_append}
use Rattle.group.specs.Members.{is_in}
use Rattle.group.specs.declared.Group as description
use Rattle.message.specs.Order.{Ordered}
use Rattle.sequencer.specs.State.{Sequencer}
use Rattle.recovery.specs.State.{Reset, Terminal}
use Rattle.reset.specs.Course.{Course}
use Rattle.reset.proofs.Invariant.{Foreign, group_in, Elsewhere, Covered, elsewhere, Inv, Goes}
use Rattle.reset.proofs.Keep.{keep}
use Rattle.reset.proofs.Seen.{Seen, same_seen}
use Rattle.reset.proofs.View.{member_of, sequencer_of}

-- the same terminals, and the same taken and submitted
pub inv_same : (n resilience line : ℕ) (c : Course) (at at' : ℕ → Terminal) (packets : List (List ℕ)) (tk tk' : ℕ → List Ordered) (sb sb' : ℕ → List (List ℕ)) → ((j : ℕ) → at' j ≡ at j) → ((j : ℕ) → tk' j ≡ tk j)
    → ((j : ℕ) → sb' j ≡ sb j) → Inv n resilience line c at packets tk sb → Inv n resilience line c at' packets tk' sb'
inv_same n resilience line c at at' packets tk tk' sb sb' ea et es v = rw (fun_ext ea, fun_ext et, fun_ext es) v

module _ (n resilience line : ℕ) (c : Course) (at : ℕ → Terminal) (packets : List (List ℕ)) (tk : ℕ → List Ordered) (sb : ℕ → List (List ℕ)) (v : Inv n resilience line c at packets tk sb) where
  abbrev group : description.Group
  group = group_in n resilience c

  abbrev cut : ℕ
  cut = v.cut

  -- packets that the group does not see
  pub more_packets : (ps : List (List ℕ)) → All (Covered c at v.under cut v.known) ps → Inv n resilience line c at (packets ++ ps) tk sb
  more_packets ps new =
      record {
        cut = v.cut;
        under = v.under;
        lost = v.lost;
        known = v.known;
        seen = v.seen;
        line_le = v.line_le;
        cut_le = v.cut_le;
        number_used = v.number_used;
        attempt_used = v.attempt_used;
        used_fit = v.used_fit;
        sits = v.sits;
        initiates = v.initiates;
        opened = v.opened;
        shut = v.shut;
        floors = v.floors;
        covered = all_append _ packets ps v.covered new;
      }

  -- a terminal that was left out
  module _ (i : ℕ) (b : i < n) (out : is_in c.survivors i ≡ false) (t' : Terminal) (at' : ℕ → Terminal) (here : at' i ≡ t') (rest : (j : ℕ) → j ≢ i → at' j ≡ at j)
      (number : t'.member.group.number ≡ (at i).member.group.number) (reset : t'.reset ≡ (at i).reset) (sequencing : t'.sequencing ≡ (at i).sequencing)
      (sequencer : t'.sequencer.group.number ≡ (at i).sequencer.group.number)
      (tk' : ℕ → List Ordered) (sb' : ℕ → List (List ℕ)) (other-tk : (j : ℕ) → j ≢ i → tk' j ≡ tk j) (other-sb : (j : ℕ) → j ≢ i → sb' j ≡ sb j) where
    apart : (j : ℕ) → is_in c.survivors j ≡ true → j ≢ i
    apart j e q = false≢true (sym out ∙ subst (λ (k : ℕ). is_in c.survivors k ≡ true) q e)

    elected_apart : c.elected ≢ i
    elected_apart = apart c.elected v.seen.standing.elected_in

    goes : Goes c i (at i) t'
    goes = record { group = λ _. number; answers = λ e. absurd (false≢true (sym out ∙ e)) }

    pub away_next : (ps : List (List ℕ)) → All (Elsewhere c) ps → Inv n resilience line c at' (packets ++ ps) tk' sb'
    away_next ps new =
        let view : sequencer_of group cut (at' c.elected) ≡ sequencer_of group cut (at c.elected) = ap (sequencer_of group cut) (rest c.elected elected_apart) in
        keep n resilience line c at packets tk sb v i b t' at' here rest c.order [] (sym (append-nil c.order)) goes (λ e. absurd (false≢true (sym out ∙ e))) tk' sb' [] ps
        (subst (λ (l : List (List ℕ)). Seen group line (sequencer_of group cut (at' c.elected)) (λ j. member_of group cut (at' j)) c.order tk' sb' v.lost l) (sym (append-nil v.known))
        (subst (λ (s : Sequencer). Seen group line s (λ j. member_of group cut (at' j)) c.order tk' sb' v.lost v.known) (sym view)
        (same_seen group line _ (λ j. member_of group cut (at j)) (λ j. member_of group cut (at' j)) c.order tk tk' sb sb' v.lost v.known (λ j e. ap (member_of group cut) (rest j (apart j e)))
        (λ j e. other-tk j (apart j e)) (λ j e. other-sb j (apart j e)) v.seen)))
        (subst (λ (s : Sequencer). (sequencer_of group cut (at c.elected)).accepted.0 ≤ s.accepted.0) (sym view) (le_refl _))
        (record {
          lost = λ e. subst (Foreign c) (sym number) ((v.sits i b).lost e);
          old = λ e q. subst (Foreign c) (sym sequencer) ((v.sits i b).old (sym sequencing ∙ e) (λ z. q (sequencer ∙ z)));
          only = λ e q. absurd (elected_apart (sym ((v.sits i b).only (sym sequencing ∙ e) (sym sequencer ∙ q)).0));
          survivor = λ e. absurd (false≢true (sym out ∙ e));
        })
        (λ e d. absurd (apart c.initiator (v.initiates d) e))
        (λ e d. ap (λ (r : Reset). r.inviting) reset ∙ subst (λ (k : ℕ). (at k).reset.inviting ≡ false) e (v.shut d))
        tt (all_each ps new)
      where
        all_each : (l : List (List ℕ)) → All (Elsewhere c) l → All (Covered c at' v.under cut (v.known ++ [])) l
        all_each [] a = tt
        all_each (p ∷ l) a = (elsewhere a.0, all_each l a.1)
