-- The bytes of each field, one after the other, by computation.
use Rattle.big_endian.specs.Number.{bytes_of}
use Rattle.packet.specs.Packet.{header_bytes}
use Rattle.packet.proofs.header_bytes.Goals as goal

pub returns : goal.returns
unfolding header_bytes bytes_of
returns c =
    rw (c.u32_bytes-c.ensures, c.u32_bytes-b.ensures, c.u32_bytes-a.ensures, c.u32_bytes-g.ensures, c.u16_bytes-l.ensures)
