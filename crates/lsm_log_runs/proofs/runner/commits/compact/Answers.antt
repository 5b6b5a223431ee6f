use Rattle.std.proofs.Common.{◌≡◌, Some, slice_get, length, refl, rules}
use Rattle.std.proofs.lemmas.Option.{slice_get_read}
use Rattle.lsm_runs.specs.Compacting.{strategies_of}
use Rattle.lsm_state.specs.WholeCompactions.{as_begun, Compacts, options_at}
use Rattle.lsm_log_runs.proofs.Compacting.{asked_at, acts_at, compact_taken, compact_acts}
use Rattle.lsm_runs.proofs.Causing.{begun_cause}
use Rattle.lsm_log_runs.proofs.runner.commits.compact.Goals as goal

pub returns-clause-takes : goal.returns-clause-takes
returns-clause-takes g c =
    let list = c.args.strategies.now in
    let strategy = c.in-Some.strategy.now in
    let there : slice_get list c.args.at ≡ Some strategy = search (rules, slice_get_read list (length list) c.args.at strategy refl) in
    let old = c.args.tree.now in
    let begun = as_begun c.compact_boxed.result in
    let new = c.compact_boxed.new.tree in
    compact_taken old new c.of_done.result begun c.of_done.ensures (strategies_of (λ b. (goal.CompactionStrategy-dyn g (b.vtable, b.value)).may_choose b.value) (λ b. (goal.CompactionStrategy-dyn g (b.vtable, b.value)).may_refuse b.value) list) c.args.at c.args.watermark (search rules)
    (asked_at (λ b. (goal.CompactionStrategy-dyn g (b.vtable, b.value)).may_choose b.value) (λ b. (goal.CompactionStrategy-dyn g (b.vtable, b.value)).may_refuse b.value) list c.args.at strategy
    (λ choose refuse. Compacts choose refuse (options_at c.args.watermark old.core) begun old.core new.core) begun old new there c.compact_boxed.ensures.asks)

pub returns-clause-acts : goal.returns-clause-acts
returns-clause-acts g c tells =
    let world = g.S.Store.world in
    let list = c.args.strategies.now in
    let strategy = c.in-Some.strategy.now in
    let there : slice_get list c.args.at ≡ Some strategy = search (rules, slice_get_read list (length list) c.args.at strategy refl) in
    let old = c.args.tree.now in
    let new = c.compact_boxed.new.tree in
    acts_at (λ b. (goal.CompactionStrategy-dyn g (b.vtable, b.value)).may_choose b.value) (λ b. (goal.CompactionStrategy-dyn g (b.vtable, b.value)).may_refuse b.value) list c.args.at strategy c.args.watermark c.of_done.result (world old.store) (world new.store) old new there
    (compact_acts old new c.of_done.result (as_begun c.compact_boxed.result) c.of_done.ensures (world old.store) (world new.store) _ c.args.watermark (c.compact_boxed.ensures.acts tells))

pub returns-clause-causes : goal.returns-clause-causes
returns-clause-causes g c = begun_cause (as_begun c.compact_boxed.result) c.of_done.result _ _ c.of_done.ensures c.compact_boxed.ensures.causes
