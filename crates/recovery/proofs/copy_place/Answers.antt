-- Three numbers and all bytes of the payload are laid into a place.
use Rattle.recovery.proofs.Turning.{copied_place}
use Rattle.recovery.proofs.copy_place.Goals as goal

pub returns : goal.returns
returns c = let a = c.args in let p = c.requires in copied_place _ _ _ _ a.source.now a.at a.from _ _ _ _ p.0 p.1 p.2 c.keep.ensures
