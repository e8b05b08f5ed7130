-- What is handed on of a text that a player printed, of each terminal at the end, and of all of them. Assumes nothing.
use Rattle.std.proofs.Common.{◌≡◌, refl, sym, ap, ◌∙◌, List, [], ◌∷◌, ◌++◌, append-nil, append_assoc, ℕ, zero, suc, ◌+◌, zero-add, arith, length, take}
use Rattle.std.specs.declared.option.Option.{Option}
use Rattle.descriptor.proofs.Laws.{takes_both, takes_as}
use Rattle.descriptor.specs.Descriptor.{Takes}
use Rattle.descriptor.specs.declared.Sink.{Sink}
use Rattle.descriptor.specs.declared.Source.{Source}
use Rattle.group.specs.Lent.{Laid}
use Rattle.player.proofs.Parts.{laid_front}
use Rattle.recovery.specs.State.{Terminal}
use Rattle.reset_player.proofs.Laws.{continues_end}
use Rattle.reset_player.specs.Feed as feed
use Rattle.reset_player.specs.Player.{Does}
use Rattle.reset_output.specs.Recover.{line_told, member_told, sequencer_told, terminals_told, last_of, recover_program}
use Rattle.reset_player.specs.declared.Fed.{Fed}
use Rattle.reset_simulator.specs.Whole.{Whole, Rows, terminals_of}
use Rattle.simulator.proofs.Lists.{lists_snoc, length_list}
use Rattle.simulator.specs.Whole.{list_of, packets_in, Packets}
use Rattle.stream.proofs.Turning.{puts_from}
use Rattle.stream.specs.Puts.{TurnsBy}
use Rattle.reset_stream.specs.Recovered.{Recovers}
use Rattle.reset_stream.specs.Steps.{HandsLast}

-- the text of a player that did what was told
pub text_told : {told : feed.Fed} {r : Fed} {w : Whole} {line lent after : List ℕ} → Does told r w line lent after → take r.written after ≡ told.text
text_told {told} {r} {w} {line} {lent} {after} d = laid_front told.text lent after r.written d.output d.written

-- a text that was laid
pub laid_text : {text lent after : List ℕ} {size : ℕ} → Laid text size lent after → take size after ≡ text
laid_text {text} {lent} {after} {size} l = laid_front text lent after size l.lent l.size

-- one terminal more
told_snoc : (i : ℕ) (ts : List Terminal) (t : Terminal) → terminals_told i (ts ++ (t ∷ [])) ≡ terminals_told i ts ++ (member_told (i + length ts) t ++ sequencer_told (i + length ts) t)
unfolding terminals_told
told_snoc i [] t =
    let e : i + 0 ≡ i = omega arith in
    rw e (ap (λ (l : List ℕ). member_told i t ++ l) (append-nil (sequencer_told i t)))
told_snoc i (s ∷ ts) t =
    let e : i + 1 + length ts ≡ i + suc (length ts) = omega arith in
    let last = member_told (i + suc (length ts)) t ++ sequencer_told (i + suc (length ts)) t in
    ap (λ (l : List ℕ). member_told i s ++ (sequencer_told i s ++ l)) (told_snoc (i + 1) ts t ∙ ap (λ (k : ℕ). terminals_told (i + 1) ts ++ (member_told k t ++ sequencer_told k t)) e)
    ∙ ap (λ (l : List ℕ). member_told i s ++ l) (sym (append_assoc (sequencer_told i s) (terminals_told (i + 1) ts) last))
    ∙ sym (append_assoc (member_told i s) (sequencer_told i s ++ terminals_told (i + 1) ts) last)

pub told_on : (f : ℕ → Terminal) (i : ℕ) → terminals_told 0 (list_of f 0 i) ++ (member_told i (f i) ++ sequencer_told i (f i)) ≡ terminals_told 0 (list_of f 0 (i + 1))
told_on f i =
    let n : 0 + length (list_of f 0 i) ≡ i = zero-add (length (list_of f 0 i)) ∙ length_list f 0 i in
    sym (ap (terminals_told 0) (lists_snoc f i) ∙ told_snoc 0 (list_of f 0 i) (f i) ∙ ap (λ (k : ℕ). terminals_told 0 (list_of f 0 i) ++ (member_told k (f i) ++ sequencer_told k (f i))) n)

pub told_none : (f : ℕ → Terminal) → terminals_told 0 (list_of f 0 0) ≡ []
unfolding terminals_told list_of
told_none f = refl

-- what is printed at the end, of a player that did what was told
pub hands_told : {W : Type 0} {contents : W → Option (List ℕ)} {told : feed.Fed} {r : Fed} {small masks numbers : List (List ℕ)} {rows : Rows} {p : Packets} {line lent after : List ℕ} {before behind : Sink W}
    → Does told r (record { n = r.player.world.n; terminals = terminals_of small masks numbers rows; packets = p }) line lent after
    → HandsLast contents r.player small masks numbers before behind → Takes contents before (last_of told.state.stage) behind
hands_told {W} {contents} {told} {r} {small} {masks} {numbers} {rows} {p} {line} {lent} {after} {before} {behind} d l =
    takes_as (ap (λ (x : feed.State). last_of x.stage) d.state) (l rows (packets_in p))

-- what the turns printed, with the end of the input behind it, is what the whole input prints
pub recovered : {R W : Type 0} {remaining : R → Option (List ℕ)} {contents : W → Option (List ℕ)} {s t : feed.State} {source read : Source R} {sink handed last : Sink W} → s ≡ feed.start → TurnsBy line_told recover_program contents remaining s t source sink read handed
    → Takes contents handed ((feed.end_of t).text ++ last_of (feed.end_of t).state.stage) last → Recovers remaining contents source sink (record { source = read; sink = last })
recovered {R} {W} {remaining} {contents} {s} {t} {source} {read} {sink} {handed} {last} e turns f =
    let p = puts_from e turns.puts in
    record { input = turns.input; gives = turns.gives; takes = takes_as (continues_end t turns.input p.printed [] refl p.continues) (takes_both p.takes f) }
