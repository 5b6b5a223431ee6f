use Rattle.std.proofs.Common.{ap, ◌∙◌, arith}
use Rattle.lsm_memtable.specs.Blocks.{joined}
use Rattle.lsm_memtable.proofs.Places.{found_top, found_none}
use Rattle.lsm_memtable.proofs.memtable.Memtable.get_counted.Goals as goal

pub returns-clause-is : goal.returns-clause-is
returns-clause-is c =
    rw (← c.self.view_is)
    (c.first_visible-found.ensures.found ∙ c.entries_are_parted.ensures.newest (joined c.self.inside.content.blocks.items) c.args.key.now c.args.snapshot c.self.invariant.blocks.rises)

pub returns-clause-greatest : goal.returns-clause-greatest
returns-clause-greatest c =
    rw (← c.self.view_is)
    (found_top c.first_visible_is_top.ensures (joined c.self.inside.content.blocks.items) c.args.key.now c.args.snapshot _ c.self.invariant.blocks.rises c.first_visible-found.ensures.found)

pub returns-clause-none : goal.returns-clause-none
returns-clause-none c =
    rw (← c.self.view_is)
    (found_none c.first_visible_is_top.ensures (joined c.self.inside.content.blocks.items) c.args.key.now c.args.snapshot _ c.first_visible-found.ensures.found)

pub returns-clause-blocks : goal.returns-clause-blocks
returns-clause-blocks c = (
  c.self.inside.content.blocks.items,
  record { same = ap (λ t. t.entries) c.self.view_is; filled = c.self.invariant.blocks.filled },
  omega (arith, c.len.ensures),
)
