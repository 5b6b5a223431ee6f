use Rattle.std.proofs.Common.{subst, sym, ap, ◌∙◌, get_or, length, ◌-◌}
use Rattle.std.specs.List.{remove}
use Rattle.lsm_below.specs.Heads.{AreHeads}
use Rattle.lsm_memtable.proofs.Heads.{heads_removed}
use Rattle.lsm_memtable.proofs.block.Block.remove.Goals as goal

pub invariant_of-self : goal.invariant_of-self
invariant_of-self c =
    let hs = c.self.inside.heads.items in
    let xs = c.self.inside.entries.items in
    let p = c.args.place in (
      subst (λ l. AreHeads l c.remove-taken.new.self.items) (sym c.remove-self-inside.ensures.items) (subst (λ l. AreHeads (remove hs p) l) (sym c.remove-taken.ensures.items) (heads_removed hs xs p c.self.invariant.0)),
      c.last_of-self-inside.ensures ∙ ap (λ l. get_or l (length l - 1) 0) c.deref.ensures.value,
    )
