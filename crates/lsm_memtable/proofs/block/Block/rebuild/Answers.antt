use Rattle.std.proofs.Common.{◌-◌, get_or, length, ap, ◌∙◌}
use Rattle.lsm_memtable.proofs.Heads.{heads_dealt}
use Rattle.lsm_memtable.proofs.block.Block.rebuild.Goals as goal

pub invariant_of-result : goal.invariant_of-result
invariant_of-result c = (
  (heads_dealt c.self.inside.heads.items c.self.inside.entries.items c.args.place c.args.keep c.head_of-head.result c.args.entry c.as_slice.result.now c.self.invariant.0 c.head_of-head.ensures.head c.as_slice.ensures c.head_of-head.ensures.bytes
      _ _ (ap (λ v. v.items) c.replace-old_heads.ensures.value) (ap (λ v. v.items) c.replace-old_entries.ensures.value) c.spread.new.lower.items c.spread.new.upper.items c.spread-2.new.lower.items c.spread-2.new.upper.items
      c.spread.ensures.items c.spread-2.ensures.items c.spread.ensures.len c.spread-2.ensures.len).1,
  c.last_of.ensures ∙ ap (λ l. get_or l (length l - 1) 0) c.deref-2.ensures.value,
)

pub invariant_of-self : goal.invariant_of-self
invariant_of-self c = (
  (heads_dealt c.self.inside.heads.items c.self.inside.entries.items c.args.place c.args.keep c.head_of-head.result c.args.entry c.as_slice.result.now c.self.invariant.0 c.head_of-head.ensures.head c.as_slice.ensures c.head_of-head.ensures.bytes
      _ _ (ap (λ v. v.items) c.replace-old_heads.ensures.value) (ap (λ v. v.items) c.replace-old_entries.ensures.value) c.spread.new.lower.items c.spread.new.upper.items c.spread-2.new.lower.items c.spread-2.new.upper.items
      c.spread.ensures.items c.spread-2.ensures.items c.spread.ensures.len c.spread-2.ensures.len).0,
  c.last_of-self-inside.ensures ∙ ap (λ l. get_or l (length l - 1) 0) c.deref.ensures.value,
)
