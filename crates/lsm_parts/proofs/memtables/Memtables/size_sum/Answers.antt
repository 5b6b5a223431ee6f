use Rattle.std.proofs.Common.{ℕ, ◌+◌, cond, rules, tests, ap, ◌∙◌}
use Rattle.std.proofs.lemmas.Iterator.Consumers.{YieldsList-from_deque, fold_from_yields_List}
use Rattle.std.specs.List.{list_any}
use Rattle.lsm_below.specs.Sums.{capped}
use Rattle.lsm_memtable.specs.Memtables.{SeenMemtable}
use Rattle.lsm_parts.specs.History.{names, named_size, versions_of}
use Rattle.lsm_parts.proofs.Counting.{fold-first}
use Rattle.lsm_parts.proofs.memtables.Memtables.size_sum.Goals as goal

pub returns : goal.returns
returns c =
    let history = c.args.history.now in
    let named = λ (m : SeenMemtable). list_any (names m.id) (versions_of history) in
    let sealed = c.self.inside.sealed.items in
    let first = c.size_named-active in
    fold_from_yields_List _ (λ (n : ℕ) (m : SeenMemtable). capped (n + cond (named m) m.size 0)) first.result c.fold.result c.fold.ensures.ran (YieldsList-from_deque sealed c.iter.ensures.rest) (λ a x b q k. search (rules, tests))
    ∙ fold-first named c.self.inside.active sealed first.result first.type_inv first.ensures
    ∙ ap (named_size history) c.self.view_is
