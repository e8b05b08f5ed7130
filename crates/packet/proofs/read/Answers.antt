-- The part lent is the payload: the stretch behind the header, whole.
use mathlib.Core.Path.{◌≡◌, ap, sym, ◌∙◌}
use mathlib.Core.List.{List}
use Prim.Native.Nat.{ℕ, ◌-◌}
use native.Mathlib.Omega.{arith}
use lib.ListN.{length, take, length-drop}
use lib.Seq.{take_all}
use Rattle.group.specs.Limits.{header_size}
use Rattle.group.specs.Question.{judged}
use Rattle.group.proofs.Choice.{choices, tests}
use Rattle.packet.specs.declared.Header.{Header}
use Rattle.packet.specs.Packet.{payload_at, fields_verdict, read_of}
use Rattle.packet.specs.Wording.{reading_wording}
use Rattle.packet.proofs.Verdicts.{read_by}
use borrow.Author.Rules.{rules}
use Rattle.packet.proofs.read.Goals as goal

part : (p : List ℕ) (h : Header) (l : ℕ) → fields_verdict h l (take (length p - header_size) (payload_at p)) ≡ fields_verdict h l (payload_at p)
part p h l = ap (λ (x : List ℕ). fields_verdict h l x) (take_all (length p - header_size) (payload_at p) (simp length-drop (omega arith)))

pub returns-in_err-ask_fields-clause-answer : goal.returns-in_err-ask_fields-clause-answer
unfolding judged
returns-in_err-ask_fields-clause-answer c =
    let h = c.header_at-header in
    let l = c.payload_length in
    let p = c.args.packet.now in
    search rules ∙ read_by p h.result l.result c.ask_fields.result (search rules) (search rules) h.ensures l.ensures (c.ask_fields.ensures ∙ part p h.result l.result)

pub returns-in_err-ask_fields-clause-wording : goal.returns-in_err-ask_fields-clause-wording
returns-in_err-ask_fields-clause-wording c = ap reading_wording (returns-in_err-ask_fields-clause-answer c)

pub returns-clause-answer : goal.returns-clause-answer
unfolding judged
returns-clause-answer c =
    let h = c.header_at-header in
    let l = c.payload_length in
    let p = c.args.packet.now in
    search rules ∙ read_by p h.result l.result c.ask_fields.result (search rules) (search rules) h.ensures l.ensures (c.ask_fields.ensures ∙ part p h.result l.result)

pub returns-clause-wording : goal.returns-clause-wording
returns-clause-wording c = ap reading_wording (returns-clause-answer c)
