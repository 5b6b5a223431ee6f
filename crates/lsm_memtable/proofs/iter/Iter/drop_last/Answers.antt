use Rattle.std.proofs.Common.{◌-◌, ◌++◌, length, take, ◌∙◌, ap, arith}
use Rattle.lsm_memtable.specs.Blocks.{joined}
use Rattle.lsm_memtable.specs.Parts.{blocks_of}
use Rattle.lsm_memtable.proofs.Stretches.{last_dropped}
use Rattle.lsm_memtable.proofs.iter.Iter.drop_last.Goals as goal

pub returns-else-len-eq0 : goal.returns-else-len-eq0
returns-else-len-eq0 c =
    let s = c.self.inside in
    ap (λ l. s.front ++ (joined (blocks_of s.middle) ++ l)) (c.up_to-self-inside.ensures ∙ ap (λ n. take (n - 1) s.back) c.len-len.ensures)
    ∙ last_dropped s.front (joined (blocks_of s.middle)) s.back (omega (arith, c.len-len.ensures, c.if-len-eq0.false)) ∙ ap (λ l. take (length l - 1) l) c.self.view_is
