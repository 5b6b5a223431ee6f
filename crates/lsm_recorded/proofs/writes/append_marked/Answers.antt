use Rattle.std.proofs.Common.{◌≡◌, ap, OnOk}
use Rattle.lsm_recorded.proofs.writes.append_marked.Goals as goal

pub returns-clause-core : goal.returns-clause-core
returns-clause-core g c = rw (c.house-entry.ensures.same, ap (λ t. t.core) c.house-entry.ensures.stays) at c.append_at_mark.ensures.core

pub returns-clause-marks : goal.returns-clause-marks
returns-clause-marks g c = rw (c.house-entry.ensures.same) at c.append_at_mark.ensures.marks
