-- The header at the front, then the payload in the part behind it (`behind`).
use mathlib.Core.Path.{ap, ◌∙◌}
use mathlib.Core.List.{List}
use Prim.Native.Nat.{ℕ}
use lib.ListN.{length}
use Rattle.group.specs.Limits.{header_size}
use Rattle.group.specs.Lent.{front}
use Rattle.packet.specs.Packet.{header_bytes, packet_of}
use Rattle.packet.proofs.RoundTrip.{header_bytes-length}
use Rattle.packet.proofs.Parts.{behind}
use borrow.Author.Rules.{rules}
use Rattle.packet.proofs.lay.Goals as goal

pub returns : goal.returns
unfolding packet_of
returns c =
    let a = c.args in
    let h = header_bytes a.h (length a.payload.now) in
    behind header_size h a.payload.now a.out.now c.copy.new.part c.copy-2.new.part
    (header_bytes-length a.h (length a.payload.now)) (search rules)
    (c.copy.ensures ∙ ap (λ (l : List ℕ). front l a.out.now) c.header_bytes-header.ensures)
    c.copy-2.ensures
