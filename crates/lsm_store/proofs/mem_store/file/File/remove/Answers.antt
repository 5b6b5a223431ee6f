use Rattle.std.proofs.Common.{subst}
use Rattle.lsm_store.specs.Held.{IsWhole}
use Rattle.lsm_store.proofs.HeldPlaces.{given_whole}
use Rattle.lsm_store.proofs.mem_store.file.File.remove.Goals as goal

pub returns-clause-whole : goal.returns-clause-whole
returns-clause-whole c = subst IsWhole c.self.view_is (given_whole c.self.inside.given c.self.inside.contents.items c.self.inside.absence c.self.invariant.0 c.self.invariant.2)
