-- The fields of fixed size in one array, then the payload behind them.
use Rattle.big_endian.specs.Number.{bytes_of}
use Rattle.text.proofs.Pieces.{laid_then}
use Rattle.journal.proofs.put_record.Goals as goal

pub returns : goal.returns
unfolding bytes_of
returns c = rw (c.u32_bytes-counted.ensures, c.u16_bytes-sized.ensures) at (laid_then _ c.args.payload.now c.put_text-next.ensures c.put_text.ensures)
