-- As many bytes are read as the packet has.
use mathlib.Core.Path.{◌≡◌, sym}
use lib.ListN.{length}
use lib.Seq.{length-take-le}
use native.Mathlib.Omega.{arith}
use Rattle.group.specs.Limits.{longest_packet}
use Rattle.simulator.proofs.Acting.{packet_read, packet_fits}
use Rattle.simulator.proofs.submit.Goals as goal

pub slice_bounds-packet-end : goal.slice_bounds-packet-end
slice_bounds-packet-end c =
    let a = c.args in
    let n : length a.packet ≡ longest_packet = c.well_formed.1.1.1.1.1.1.1.1.1.1.1.0.1.0.1 in
    let s = packet_fits c.fitting-size.result a.size c.fitting-size.ensures in
    omega arith

pub slice_bounds-sequence-end : goal.slice_bounds-sequence-end
slice_bounds-sequence-end c =
    let a = c.args in
    let n : length a.packet ≡ longest_packet = c.well_formed.1.1.1.1.1.1.1.1.1.1.1.0.1.0.1 in
    let s = packet_fits c.fitting-size.result a.size c.fitting-size.ensures in
    sym (length-take-le c.fitting-size.result a.packet (omega arith))

pub returns : goal.returns
returns c =
    let a = c.args in
    let n : length a.packet ≡ longest_packet = c.well_formed.1.1.1.1.1.1.1.1.1.1.1.0.1.0.1 in
    rw (packet_read c.fitting-size.result a.size a.packet n c.fitting-size.ensures) at c.sequence.ensures
