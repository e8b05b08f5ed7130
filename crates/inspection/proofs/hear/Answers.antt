-- As many bytes are read as the packet has.
use mathlib.Core.Path.{◌≡◌, sym}
use native.Mathlib.Omega.{arith}
use lib.ListN.{length}
use lib.Seq.{length-take-le}
use Rattle.group.specs.Limits.{longest_packet}
use Rattle.simulator.proofs.Acting.{packet_read, packet_fits}
use borrow.Author.Rules.{rules}
use Rattle.inspection.proofs.hear.Goals as goal

pub slice_bounds-packet-end : goal.slice_bounds-packet-end
slice_bounds-packet-end c =
    let a = c.args in
    let n : length a.packet ≡ longest_packet = search rules in
    let s = packet_fits c.fitting.result a.size c.fitting.ensures in
    omega arith

pub slice_bounds-hear-end : goal.slice_bounds-hear-end
slice_bounds-hear-end c =
    let a = c.args in
    let n : length a.packet ≡ longest_packet = search rules in
    let s = packet_fits c.fitting.result a.size c.fitting.ensures in
    sym (length-take-le c.fitting.result a.packet (omega arith))

pub returns : goal.returns
returns c =
    let a = c.args in
    let n : length a.packet ≡ longest_packet = search rules in
    let s = packet_fits c.fitting.result a.size c.fitting.ensures in
    rw (packet_read c.fitting.result a.size a.packet n c.fitting.ensures) at c.hear.ensures
