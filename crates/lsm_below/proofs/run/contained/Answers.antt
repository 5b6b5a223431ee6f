use Rattle.std.proofs.Common.{sym, ◌∙◌, ◌-◌, arith, subst, List, ℕ, not, ◌&&◌}
use Rattle.lsm_below.specs.Runs.{stands, IsCut}
use Rattle.lsm_below.specs.declared.run.Side.TheVariants.{StartsBefore, EndsAtOrBefore}
use Rattle.lsm_below.specs.Ranges.{is_within}
use Rattle.lsm_below.proofs.Keys.{within_by, filter_same}
use Rattle.lsm_below.proofs.Cuts.{between, none_between}
use Rattle.lsm_below.proofs.run.contained.Goals as goal

pub returns-then-start-end : goal.returns-then-start-end
returns-then-start-end g c =
    let range = g.T.Ranged.range in
    let xs = c.args.tables.now in
    let first = subst (λ (k : List ℕ). IsCut (λ t. stands StartsBefore k (range t)) xs c.count_standing-start.result) c.min_bytes.ensures c.count_standing-start.ensures in
    let last = subst (λ (k : List ℕ). IsCut (λ t. stands EndsAtOrBefore k (range t)) xs c.count_standing-end.result) c.max_bytes.ensures c.count_standing-end.ensures in
    sym (between (λ t. stands StartsBefore c.args.range.now.min (range t)) (λ t. stands EndsAtOrBefore c.args.range.now.max (range t)) xs c.count_standing-start.result c.count_standing-end.result (c.count_standing-end.result - c.count_standing-start.result) first last (omega arith) (omega arith)) ∙ filter_same (λ t. not (stands StartsBefore c.args.range.now.min (range t)) && stands EndsAtOrBefore c.args.range.now.max (range t)) (λ t. is_within (range t) c.args.range.now) (λ t. sym (within_by (range t) c.args.range.now)) xs

pub returns-else-start-end : goal.returns-else-start-end
returns-else-start-end g c =
    let range = g.T.Ranged.range in
    let xs = c.args.tables.now in
    let first = subst (λ (k : List ℕ). IsCut (λ t. stands StartsBefore k (range t)) xs c.count_standing-start.result) c.min_bytes.ensures c.count_standing-start.ensures in
    let last = subst (λ (k : List ℕ). IsCut (λ t. stands EndsAtOrBefore k (range t)) xs c.count_standing-end.result) c.max_bytes.ensures c.count_standing-end.ensures in
    sym (none_between (λ t. stands StartsBefore c.args.range.now.min (range t)) (λ t. stands EndsAtOrBefore c.args.range.now.max (range t)) xs c.count_standing-start.result c.count_standing-end.result first last (omega arith)) ∙ filter_same (λ t. not (stands StartsBefore c.args.range.now.min (range t)) && stands EndsAtOrBefore c.args.range.now.max (range t)) (λ t. is_within (range t) c.args.range.now) (λ t. sym (within_by (range t) c.args.range.now)) xs
