use Rattle.std.proofs.Common.{refl}
use Rattle.std.specs.List.{IsDistinct}
use Rattle.lsm_versions.specs.Levels.{IsVersion, empty_levels}
use Rattle.lsm_versions.proofs.version.Version.new.Goals as goal

no_tables : IsVersion empty_levels
unfolding IsDistinct
no_tables = record { seven = refl; runs = (tt, (tt, (tt, (tt, (tt, (tt, (tt, tt))))))); covered = tt; rising = tt; own_ids = tt; fitting = refl }

pub invariant_of-result : goal.invariant_of-result
invariant_of-result c = rw (c.empty.ensures, c.empty-2.ensures, c.empty-3.ensures, c.empty-4.ensures, c.empty-5.ensures, c.empty-6.ensures, c.empty-7.ensures) (record { levels_are = no_tables; totals_are = c.none.ensures })
