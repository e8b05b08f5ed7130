-- The loop's invariant: the records are sound exactly if those from the next one on are.
use Rattle.std.proofs.Common.{◌≡◌, drop}
use Rattle.group.specs.Fold.{all}
use Rattle.jobs.specs.Sound.{record_sound}
use Rattle.jobs.proofs.sound.Given as goal

abbrev pub invariant-loop-place : goal.invariant-loop-place
invariant-loop-place l = all (record_sound l.jobs) 0 l.jobs ≡ all (record_sound l.jobs) l.place (drop l.place l.jobs)
