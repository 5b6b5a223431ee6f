use Rattle.std.proofs.Common.{◌≡◌, ◌-◌, ◌++◌, ◌∷◌, [], length, take, subst}
use Rattle.lsm_memtable.specs.Blocks.{joined}
use Rattle.lsm_memtable.specs.Parts.{blocks_of}
use Rattle.lsm_memtable.proofs.Stretches.{last_seen}
use Rattle.lsm_memtable.proofs.iter.Iter.last_headed.Goals as goal

pub returns-in-Some : goal.returns-in-Some
returns-in-Some c =
    let s = c.self.inside in
    subst (λ l. l ≡ take (length l - 1) l ++ c.in-Some.headed ∷ []) c.self.view_is (last_seen s.front (joined (blocks_of s.middle)) s.back c.in-Some.headed c.in-Some.ensures)
