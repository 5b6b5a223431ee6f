use Rattle.std.proofs.Common.{ap, ◌∙◌, arith}
use Rattle.lsm_memtable.proofs.memtable.Memtable.insert_counted.Goals as goal

pub returns-clause-blocks : goal.returns-clause-blocks
returns-clause-blocks c = (
  c.self.inside.content.blocks.items,
  record { same = ap (λ t. t.entries) (c.self.view_is ∙ c.house-item.ensures.stays); filled = c.self.invariant.blocks.filled },
  omega (arith, c.len-blocks.ensures),
)
