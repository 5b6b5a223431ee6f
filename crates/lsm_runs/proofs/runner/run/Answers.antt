use Rattle.std.proofs.Common.{refl, ap, subst, sym, take, length}
use Rattle.lsm_runs.specs.Slots.{beside}
use Rattle.lsm_runs.proofs.Causing.{causes_between}
use Rattle.lsm_runs.proofs.Counting.{run_in_order}
use Rattle.lsm_runs.specs.Chains.{point}
use Rattle.lsm_runs.proofs.Unknown.{run_unknown}
use Rattle.lsm_runs.proofs.Keeping.{KeepLaws}
use Rattle.lsm_runs.proofs.Adds.{run_adds_so}
use Rattle.lsm_runs.proofs.After.{run_is_right}
use Rattle.lsm_runs.proofs.Moments.{run_has_moments}
use Rattle.lsm_runs.proofs.Files.{closed_stored}
use Rattle.lsm_runs.proofs.GivingUp.{all_closes}
use Rattle.lsm_runs.proofs.OpenMerges.{KeepsStart, start_kept, ran_kept}
use Rattle.lsm_runs.proofs.Small.{run_small}
use Rattle.lsm_runs.proofs.Replays.{run_replays, run_to_end, free_slots}
use Rattle.lsm_runs.proofs.Uses.{run_uses, run_rises}
use Rattle.lsm_runs.proofs.runner.run.Goals as goal

pub returns-clause-ran : goal.returns-clause-ran
returns-clause-ran g c =
    let mid = c.take_steps-taken.new.state.core in
    run_to_end _ _ _ c.new-slots.result c.args.state.now.core (beside mid c.take_steps-taken.new.slots) _ c.new-slots.ensures.empty c.take_steps-taken.ensures.ran
    (all_closes c.take_steps-taken.new.slots.entries mid _ c.give_up_all.ensures.core)

pub returns-clause-unknown : goal.returns-clause-unknown
returns-clause-unknown g c =
    let mid = c.take_steps-taken.new.state in
    run_unknown _ _ _ c.new-slots.result c.args.state.now.core (beside mid.core c.take_steps-taken.new.slots) _ _ _ _ c.new-slots.ensures.empty c.take_steps-taken.ensures.unknown
    (all_closes c.take_steps-taken.new.slots.entries mid.core _ c.give_up_all.ensures.core) c.give_up_all.ensures.store

pub returns-clause-causes : goal.returns-clause-causes
returns-clause-causes g c =
    let w = g.S.Store.world in
    let mid = c.take_steps-taken.new.state in
    causes_between w _ _ _ mid.store _ refl (ap (λ s. (w s).failures) c.give_up_all.ensures.store) c.take_steps-taken.ensures.causes

pub returns-clause-replays : goal.returns-clause-replays
returns-clause-replays g c opened start =
    let laws : KeepLaws = record { theory = c.reads_are_sound.ensures; flushes = c.flushes_keep_reads.ensures; compactions = c.noted_compactions_keep_reads.ensures; clears = c.clears_keep_reads.ensures } in
    run_replays c.lists_are_steps.ensures laws _ opened start _ _ _ _ (returns-clause-ran g c)

pub returns-clause-adds : goal.returns-clause-adds
returns-clause-adds g c = run_adds_so _ _ _ _ _ (returns-clause-ran g c)

pub returns-clause-uses : goal.returns-clause-uses
returns-clause-uses g c = run_uses _ _ _ _ _ (returns-clause-ran g c)

pub returns-clause-rises : goal.returns-clause-rises
returns-clause-rises g c = run_rises c.rising_is_in_order.ensures _ _ _ (returns-clause-uses g c)

pub returns-clause-right : goal.returns-clause-right
returns-clause-right g c =
    let laws : KeepLaws = record { theory = c.reads_are_sound.ensures; flushes = c.flushes_keep_reads.ensures; compactions = c.noted_compactions_keep_reads.ensures; clears = c.clears_keep_reads.ensures } in
    run_is_right c.lists_are_steps.ensures laws _ _ _ _ _ (returns-clause-ran g c)

pub returns-clause-in_order : goal.returns-clause-in_order
returns-clause-in_order g c = run_in_order c.counted_is_in_order.ensures _ _ _ _ _ (returns-clause-ran g c)

pub returns-clause-flush : goal.returns-clause-flush
returns-clause-flush g c =
    let old = c.args.state.now.core in
    c.give_up_all.ensures.flush old.flush
    (ran_kept _ old _ _ (beside old c.new-slots.result) (beside c.take_steps-taken.new.state.core c.take_steps-taken.new.slots) c.take_steps-taken.ensures.ran
    (subst (KeepsStart old) (sym (free_slots c.new-slots.result old c.new-slots.ensures.empty)) (start_kept old c.facts.ensures.merges))).0

pub returns-clause-merges : goal.returns-clause-merges
returns-clause-merges g c =
    let old = c.args.state.now.core in
    c.give_up_all.ensures.merges old.merges
    (ran_kept _ old _ _ (beside old c.new-slots.result) (beside c.take_steps-taken.new.state.core c.take_steps-taken.new.slots) c.take_steps-taken.ensures.ran
    (subst (KeepsStart old) (sym (free_slots c.new-slots.result old c.new-slots.ensures.empty)) (start_kept old c.facts.ensures.merges))).1

pub returns-clause-stored : goal.returns-clause-stored
returns-clause-stored g c tells h =
    let mid = c.take_steps-taken.new.state.core in
    closed_stored g.S.Store.world _ _ _ _ (all_closes c.take_steps-taken.new.slots.entries mid _ c.give_up_all.ensures.core) c.give_up_all.ensures.store (c.take_steps-taken.ensures.stored tells h)

pub returns-clause-moments : goal.returns-clause-moments
returns-clause-moments g c tells =
    let laws : KeepLaws = record { theory = c.reads_are_sound.ensures; flushes = c.flushes_keep_reads.ensures; compactions = c.noted_compactions_keep_reads.ensures; clears = c.clears_keep_reads.ensures } in
    let old = c.args.state.now in
    let mid = c.take_steps-taken.new in
    let first = point old c.new-slots.result in
    let last = point mid.state mid.slots in
    let told = c.take_steps-taken.result.outcomes.items in
    let taken = take (length told) c.args.steps.now in
    let world = g.S.Store.world in
    run_has_moments laws _ world c.runs_compose.ensures c.flushes_are_deeds.ensures c.found_tables_show.ensures.shows c.images_stand_once.ensures.found c.no_low_reads.ensures c.numbers_are_bounded.ensures c.notes_tell_sealed.ensures c.stored_files_are_ready.ensures (g.met.S.Store.only_now tells) taken told first last
    (c.take_steps-taken.ensures.along tells) c.facts.ensures (free_slots c.new-slots.result old.core c.new-slots.ensures.empty) (c.is_upheld.ensures tells) c.give_up_all.new.state.store c.give_up_all.new.state.core c.give_up_all.ensures.store
    (all_closes c.take_steps-taken.new.slots.entries mid.state.core _ c.give_up_all.ensures.core) (run_small _ _ _ _ _ (returns-clause-ran g c))
