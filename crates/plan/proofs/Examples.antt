-- The worked example, by computing it. Assumes nothing.
use mathlib.Core.Path.{refl}
use Rattle.group.specs.Choice.{when◌then◌else◌}
use Rattle.big_endian.specs.Number.{number_at, bytes_of}
use Rattle.plan.specs.Units.{sets, unit_of, description_of, placed, latest_from, plan_bytes}
use Rattle.plan.specs.Kept.{not_in, last_ones}
use Rattle.plan.specs.Examples.{FivePlan, FiveKept}

pub five_plan : FivePlan
unfolding when◌then◌else◌ number_at bytes_of sets unit_of description_of placed latest_from plan_bytes
five_plan = refl

pub five_kept : FiveKept
unfolding when◌then◌else◌ number_at sets unit_of not_in last_ones
five_kept = refl
