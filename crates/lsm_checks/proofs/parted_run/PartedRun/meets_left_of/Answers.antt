use Rattle.std.proofs.Common.{◌≡◌, false, sym, subst}
use Rattle.lsm_checks.specs.Parted.{Parted, meets}
use Rattle.lsm_checks.proofs.Parting.{any_never}
use Rattle.lsm_checks.proofs.parted_run.PartedRun.meets_left_of.Goals as goal

pub returns-in-None : goal.returns-in-None
returns-in-None c = subst (λ (p : Parted). false ≡ meets c.args.self.now.chosen p.left) c.other.view_is (rw c.in-None.is (sym (any_never c.args.self.now.chosen)))
