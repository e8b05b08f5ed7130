-- `-` lays nothing; pairs of digits are laid one by one.
use mathlib.Core.Path.{◌≡◌, sym, ◌∙◌}
use mathlib.Core.List.{[]}
use Rattle.text.specs.Field.{hex_bytes, pairs_of}
use Rattle.text.proofs.Digits.{hex_dash, hex_pairs, hex_digits, pairs_length}
use borrow.Author.Rules.{rules}
use Rattle.text.proofs.lay_hex.Goals as goal

pub returns-then-is_dash : goal.returns-then-is_dash
returns-then-is_dash c =
    let f = c.args.field.now in
    let e : hex_bytes f ≡ [] = hex_dash f (sym c.is_dash.ensures ∙ c.if-is_dash.true) in
    record { size = rw e; lent = rw e }

pub lay_pairs-requires : goal.lay_pairs-requires
lay_pairs-requires c =
    let f = c.args.field.now in
    let h = hex_digits f c.requires.field_value (sym c.is_dash.ensures ∙ c.if-is_dash.false) in
    record { field_value = h.0; field_len = h.1; field_len_bound = search rules }

pub returns : goal.returns
returns c =
    let f = c.args.field.now in
    let e : hex_bytes f ≡ pairs_of f = hex_pairs f (sym c.is_dash.ensures ∙ c.if-is_dash.false) in
    record { size = rw e (sym (pairs_length f)); lent = rw e c.lay_pairs.ensures }
