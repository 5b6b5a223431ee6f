use Rattle.std.proofs.Common.{◌≡◌, Some, slice_get, length, refl, rules}
use Rattle.std.proofs.lemmas.Option.{slice_get_read}
use Rattle.lsm_runs.specs.Compacting.{strategies_of}
use Rattle.lsm_runs.proofs.CompactionOutcomes.{asked_at, begun_taken}
use Rattle.lsm_runs.proofs.runner.compaction.begin_compaction.Goals as goal

pub returns-clause-ok : goal.returns-clause-ok
returns-clause-ok g c =
    let list = c.args.strategies.now in
    let strategy = c.in-Some.strategy.now in
    let there : slice_get list c.args.at ≡ Some strategy = search (rules, slice_get_read list (length list) c.args.at strategy refl) in
    let old = c.args.state.now.core in
    let done = c.begin_chosen-begun in
    let told = c.of_begun-reply in
    begun_taken (strategies_of (λ b. (goal.CompactionStrategy-dyn g (b.vtable, b.value)).may_choose b.value) (λ b. (goal.CompactionStrategy-dyn g (b.vtable, b.value)).may_refuse b.value) list) c.args.at c.args.options done.result.1.items old done.new.tree.core c.args.place.now told.result.1 told.result.0 done.result.0 told.ensures.reply (record {
      there = search rules;
      free = search rules;
      answer = c.in_ok-chosen.chosen.answer;
      answered = asked_at (λ b. (goal.CompactionStrategy-dyn g (b.vtable, b.value)).may_choose b.value) (λ b. (goal.CompactionStrategy-dyn g (b.vtable, b.value)).may_refuse b.value) list c.args.at strategy c.args.state.now.core c.in_ok-chosen.chosen.answer there c.in_ok-chosen.ensures.answer;
      begun = done.result.0;
      begins = done.ensures.begins;
      waits = told.ensures.job;
      told = told.ensures.reply;
    })
