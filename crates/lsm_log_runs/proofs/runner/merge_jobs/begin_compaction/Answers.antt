use Rattle.std.proofs.Common.{◌≡◌, Some, slice_get, length, refl, rules}
use Rattle.std.proofs.lemmas.Option.{slice_get_read}
use Rattle.lsm_runs.specs.Compacting.{strategies_of}
use Rattle.lsm_state.specs.Compactions.{BeginsCompaction}
use Rattle.lsm_runs.proofs.Causing.{begun_cause}
use Rattle.lsm_log_runs.proofs.Compacting.{asked_at, acts_at, begun_taken, compact_acts}
use Rattle.lsm_log_runs.proofs.runner.merge_jobs.begin_compaction.Goals as goal

pub returns-clause-takes : goal.returns-clause-takes
returns-clause-takes g c =
    let list = c.args.strategies.now in
    let strategy = c.in-Some.strategy.now in
    let there : slice_get list c.args.at ≡ Some strategy = search (rules, slice_get_read list (length list) c.args.at strategy refl) in
    let old = c.args.tree.now in
    let begun = c.begin_boxed.result in
    let new = c.begin_boxed.new.tree in
    let told = c.of_begun-reply in
    begun_taken old new told.result.0 begun told.ensures.reply (strategies_of (λ b. (goal.CompactionStrategy-dyn g (b.vtable, b.value)).may_choose b.value) (λ b. (goal.CompactionStrategy-dyn g (b.vtable, b.value)).may_refuse b.value) list) c.args.at c.args.options c.args.place.now told.result.1 (record {
      there = search rules;
      free = search rules;
      begun = begun;
      begins = asked_at (λ b. (goal.CompactionStrategy-dyn g (b.vtable, b.value)).may_choose b.value) (λ b. (goal.CompactionStrategy-dyn g (b.vtable, b.value)).may_refuse b.value) list c.args.at strategy
          (λ choose refuse. BeginsCompaction choose refuse c.args.options begun old.core new.core) begun old new there c.begin_boxed.ensures.asks;
      waits = told.ensures.job;
      told = told.ensures.reply;
    })

pub returns-clause-acts : goal.returns-clause-acts
returns-clause-acts g c tells =
    let world = g.S.Store.world in
    let told = c.of_begun-reply in
    let list = c.args.strategies.now in
    let strategy = c.in-Some.strategy.now in
    let there : slice_get list c.args.at ≡ Some strategy = search (rules, slice_get_read list (length list) c.args.at strategy refl) in
    let old = c.args.tree.now in
    let new = c.begin_boxed.new.tree in
    acts_at (λ b. (goal.CompactionStrategy-dyn g (b.vtable, b.value)).may_choose b.value) (λ b. (goal.CompactionStrategy-dyn g (b.vtable, b.value)).may_refuse b.value) list c.args.at strategy c.args.options.mvcc_gc_watermark told.result.0 (world old.store) (world new.store) old new there
    (compact_acts old new told.result.0 c.begin_boxed.result told.ensures.reply (world old.store) (world new.store) _ c.args.options.mvcc_gc_watermark (c.begin_boxed.ensures.acts tells))

pub returns-clause-causes : goal.returns-clause-causes
returns-clause-causes g c =
    let told = c.of_begun-reply in
    begun_cause c.begin_boxed.result told.result.0 _ _ told.ensures.reply c.begin_boxed.ensures.causes
