-- The view says every number and byte of the struct, so a refusal, whose outcome leaves the state, leaves them all. Assumes nothing.
use mathlib.Core.Path.{sym, ap, ◌∙◌}
use lib.ListN.{length}
use Rattle.group.specs.Limits.{places_most}
use Rattle.history.proofs.View.{table_whole}
use Rattle.store.proofs.Places.{messages_whole}
use Rattle.sequencer.specs.Calls.{Outcome, answered}
use Rattle.sequencer.specs.State.{Sequencer as Seen}
use Rattle.sequencer.specs.View as view
use Rattle.sequencer.specs.declared.Reply.{Reply}
use Rattle.sequencer.proofs.Leaving.{refuses}
use Rattle.states.specs.Sequencer.{view_of, ViewWhole, RefusedLeaves}

pub view_whole : ViewWhole
unfolding view.view_of
view_whole s t a b e =
    let x = a.entries in
    let y = b.entries in
    let k = a.places in
    let l = b.places in
    let table = table_whole s.taken s.counts s.repeats t.taken t.counts t.repeats
    (x.counts_size ∙ sym x.taken_size) (x.repeats_size ∙ sym x.taken_size) (y.counts_size ∙ sym y.taken_size) (y.repeats_size ∙ sym y.taken_size)
    (ap (λ (v : Seen). v.acknowledgements) e) in
    let history = messages_whole places_most s.kept s.originators s.lengths s.payloads t.kept t.originators t.lengths t.payloads
    (record { counts_size = k.kept_size; originators_size = k.originators_size; lengths_size = k.lengths_size; bytes_size = k.payloads_size })
    (record { counts_size = l.kept_size; originators_size = l.originators_size; lengths_size = l.lengths_size; bytes_size = l.payloads_size })
    (ap (λ (v : Seen). v.history) e) in
    λ i. record {
      head = record { group = (e i).group; top = (e i).top; accepted = (e i).accepted; floor = (e i).floor };
      taken = table.0 i;
      counts = table.1 i;
      repeats = table.2 i;
      kept = history.0 i;
      marks = (e i).marks;
      originators = history.1 i;
      lengths = history.2 i;
      payloads = history.3 i;
    }

pub refused_leaves : RefusedLeaves
unfolding answered
refused_leaves s s' packet before after reply refusal a b d e =
    let z = refuses (view_of s) packet (length before) refusal (sym (ap (λ (r : Reply). r.answer) d.answer) ∙ e) in (
      view_whole s' s b a (d.state ∙ ap (λ (o : Outcome). o.sequencer) z.1),
      rw z.1 at d.lent,
    )
