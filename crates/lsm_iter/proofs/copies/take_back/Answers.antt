use Rattle.std.proofs.Common.{◌-◌, take, set, ◌∙◌, sym, ap, subst}
use Rattle.lsm_iter.specs.Left.{Takes}
use Rattle.lsm_iter.specs.Joined.{joined}
use Rattle.lsm_iter.specs.declared.tree_iter.End.TheVariants.{Back}
use Rattle.lsm_iter.proofs.Joined.{last_place, back_peeked, back_skipped, back_gone, none_counted}
use Rattle.lsm_iter.proofs.copies.take_back.Goals as goal

pub returns-then-len-eq0 : goal.returns-then-len-eq0
returns-then-len-eq0 c =
    let is = c.take-entry.ensures.is ∙ sym (back_peeked c.args.blocks.now.items (c.len-last.result - 1) c.index_mut.result.now (last_place c.args.blocks.now.items c.len-last.result c.args.blocks.now.len c.args.blocks.now.ok.0 c.len-last.ensures (sym c.is_empty.ensures ∙ c.if-is_empty.false)) c.index_mut.ensures.value c.requires) in
    let gone = back_gone c.args.blocks.now.items (c.len-last.result - 1) c.index_mut.result.now (last_place c.args.blocks.now.items c.len-last.result c.args.blocks.now.len c.args.blocks.now.ok.0 c.len-last.ensures (sym c.is_empty.ensures ∙ c.if-is_empty.false)) c.index_mut.ensures.value c.requires c.take-entry.new.self c.index.result.now c.pop_back.new.self.items
    (subst (λ o. Takes Back c.index_mut.result.now o c.take-entry.new.self) c.take-entry.ensures.is c.take-entry.ensures.takes) c.index.ensures (none_counted c.index.result.now (sym c.len.ensures ∙ c.if-len-eq0.true))
    (c.pop_back.ensures.rest ∙ ap (λ n. take (n - 1) (set c.args.blocks.now.items (c.len-last.result - 1) c.take-entry.new.self)) (sym c.len-last.ensures)) in
    record {
      is = is;
      takes = subst (λ o. Takes Back (joined c.args.blocks.now.items) o (joined c.pop_back.new.self.items)) (sym is) gone.0;
      full = gone.1;
    }

pub returns-else-len-eq0-clause-is : goal.returns-else-len-eq0-clause-is
returns-else-len-eq0-clause-is c =
    c.take-entry.ensures.is ∙ sym (back_peeked c.args.blocks.now.items (c.len-last.result - 1) c.index_mut.result.now (last_place c.args.blocks.now.items c.len-last.result c.args.blocks.now.len c.args.blocks.now.ok.0 c.len-last.ensures (sym c.is_empty.ensures ∙ c.if-is_empty.false)) c.index_mut.ensures.value c.requires)

pub returns-else-len-eq0-clause-takes : goal.returns-else-len-eq0-clause-takes
returns-else-len-eq0-clause-takes c =
    subst (λ o. Takes Back (joined c.args.blocks.now.items) o (joined (set c.args.blocks.now.items (c.len-last.result - 1) c.take-entry.new.self))) (sym (returns-else-len-eq0-clause-is c))
    (back_skipped c.args.blocks.now.items (c.len-last.result - 1) c.index_mut.result.now (last_place c.args.blocks.now.items c.len-last.result c.args.blocks.now.len c.args.blocks.now.ok.0 c.len-last.ensures (sym c.is_empty.ensures ∙ c.if-is_empty.false)) c.index_mut.ensures.value c.requires c.take-entry.new.self
    (subst (λ o. Takes Back c.index_mut.result.now o c.take-entry.new.self) c.take-entry.ensures.is c.take-entry.ensures.takes))
