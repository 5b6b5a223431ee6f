use Rattle.std.proofs.Common.{rules, tests, ◌+◌, filter, ◌∙◌}
use Rattle.std.proofs.lemmas.Iterator.{YieldsList-from_slice}
use Rattle.std.proofs.lemmas.Iterator.Consumers.{YieldsList-at, YieldsList-from_filter, fold_from_yields_List}
use Rattle.std.specs.List.{list_any}
use Rattle.lsm_below.specs.Sums.{capped}
use Rattle.lsm_memtable.specs.Memtables.{SeenMemtable}
use Rattle.lsm_parts.specs.History.{names, versions_of}
use Rattle.lsm_parts.proofs.Histories.{fold-capped}
use Rattle.lsm_parts.proofs.version.super_version.SuperVersions.memtable_size_sum.Goals as goal

pub returns : goal.returns
returns c =
    let named = λ (m : SeenMemtable). list_any (names m.id) (versions_of c.args.self.now) in
    fold_from_yields_List _ (λ a m. capped (a + m.size)) 0 c.fold.result c.fold.ensures.ran
    (YieldsList-from_filter {s = c.filter.result} _ named (YieldsList-at c.filter.ensures.source (YieldsList-from_slice c.args.memtables.now c.iter.ensures.rest)) c.filter.ensures.closure (λ x b q k. search (rules, tests)))
    (λ a x b q k. search (rules, tests))
    ∙ fold-capped (filter named c.args.memtables.now) 0
