use Rattle.std.proofs.Common.{◌≡◌, ℕ, List, Option, Some, None, option_copied, IfNone, Bor, sym, ap, ◌∙◌}
use Rattle.lsm_below.specs.Entries.{Entry}
use Rattle.lsm_below.specs.Sorted.{first}
use Rattle.lsm_below.specs.Lookups.{is_visible, HasNone}
use Rattle.lsm_below.specs.Laws.{FirstVisibleIsTop}
use Rattle.lsm_tables.proofs.table.find_in.Goals as goal

found_none : FirstVisibleIsTop → (xs : List Entry) (key : List ℕ) (s : ℕ) (r : Option (Bor Entry)) → option_copied r ≡ first (is_visible key s) xs → IfNone r (HasNone xs key s)
found_none tops xs key s (Some e) is = tt
found_none tops xs key s None is = tops.none xs key s (sym is)

pub returns-clause-none : goal.returns-clause-none
returns-clause-none c = found_none c.first_visible_is_top.ensures c.args.inner.now.entries.items c.args.key.now c.args.seqno c.find.result (c.find.ensures ∙ ap (λ (l : List Entry). first (is_visible c.args.key.now c.args.seqno) l) c.deref-2.ensures.value)
