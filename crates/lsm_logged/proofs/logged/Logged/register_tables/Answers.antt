use Rattle.std.proofs.Common.{◌≡◌, ⊎_elim, ◌<◌, ◌^◌, false, Result, Ok, Err, refl, sym, ap, ◌∙◌, subst, rules}
use Rattle.std.proofs.lemmas.Result.{err_from_is_err_and}
use Rattle.lsm_below.specs.declared.error.Error.{Error}
use Rattle.lsm_below.specs.declared.error.Error.TheVariants.{Unrecoverable}
use Rattle.lsm_flush.specs.Jobs.{SeenJob}
use Rattle.lsm_flush.specs.declared.jobs.Registered.{Registered}
use Rattle.lsm_commit.specs.Foreign.{AtRest}
use Rattle.lsm_state.specs.Core.{Core}
use Rattle.lsm_state.specs.Flushes.{spent}
use Rattle.lsm_state.specs.Commits.{UpholdsFiles, Upholds}
use Rattle.lsm_state.proofs.Registering.{spent_upholds}
use Rattle.lsm_logged.specs.Keeping.{SeenLogged}
use Rattle.lsm_logged.specs.Removing.{KeepsKnown}
use Rattle.lsm_logged.specs.Flushing.{RemovesBehind}
use Rattle.lsm_logged.specs.Acting.{RegistersAct}
use Rattle.lsm_logged.proofs.RegisterActs.{spent_acts, refused_acts, registered_acts}
use Rattle.lsm_logged.proofs.Gone.{gone_behind, cleaned_cause}
use Rattle.lsm_logged.proofs.Known.{LeavesLogged, known_still, leaves_logged, all_left, gone_left}
use Rattle.lsm_logged.proofs.Removals.{none_behind, passes_alone, none_alone, leaves_behind}
use Rattle.lsm_logged.proofs.Seen.{logged_with}
use Rattle.lsm_logged.proofs.logged.Logged.register_tables.Given.{Over}
use Rattle.lsm_logged.proofs.logged.Logged.register_tables.Goals as goal

-- what is left where the log was cleaned
module _ (g : Over) (c : goal.After-clean_log g) (tells : g.S.Store.tells) where
  left : LeavesLogged g.S.Store.world c.args.self.now c.clean_log.new.self
  left = leaves_logged g.S.Store.world c.self.inside.tree c.register_tables.new.self c.self.inside.numbers.items c.self.inside.doubted c.clean_log.new.self c.args.self.now c.self.view_is (c.register_tables.ensures.upholds tells) c.clean_log.ensures.cleans.core (c.clean_log.ensures.upholds tells) (c.clean_log.ensures.passes tells) (c.clean_log.ensures.known tells)

pub returns-in_err-registered-clause-passes : goal.returns-in_err-registered-clause-passes
returns-in_err-registered-clause-passes g c tells =
    passes_alone g.S.Store.world c.self.inside.tree c.register_tables.new.self c.self.inside.numbers.items c.self.inside.doubted c.args.self.now c.self.view_is (c.register_tables.ensures.upholds tells).passes

pub returns-clause-passes : goal.returns-clause-passes
returns-clause-passes g c tells = (left g c tells).left.passed

pub returns-clause-behind : goal.returns-clause-behind
returns-clause-behind g c tells = (left g c tells).left.either

pub returns-clause-upholds : goal.returns-clause-upholds
returns-clause-upholds g c tells = (left g c tells).left.files

pub returns-then-self-clause-upholds : goal.returns-then-self-clause-upholds
returns-then-self-clause-upholds g c tells =
    let w = g.S.Store.world in
    let i = c.self.inside in
    let old = i.tree.core in
    let n = c.into_job.result.number in
    let rest : AtRest (w i.tree.store) = subst (λ (s : g.row.S.Denot). AtRest (w s)) c.store.ensures (c.crashes_leave_versions.ensures tells) in
    let kept = (spent_upholds (w i.tree.store) old n rest).files in
    let there = subst (λ (s : g.row.S.Denot). UpholdsFiles (w i.tree.store) (w s) old (spent n old)) (sym c.abandon_flush.ensures.store) kept in
    let here = subst (λ (k : Core). UpholdsFiles (w i.tree.store) (w c.abandon_flush.new.self.store) old k) (sym c.abandon_flush.ensures.core) there in
    subst (λ (t : SeenLogged g.row.S.Denot). UpholdsFiles (w t.store) (w c.abandon_flush.new.self.store) t.core c.abandon_flush.new.self.core) c.self.view_is here

pub returns-then-self-clause-behind : goal.returns-then-self-clause-behind
returns-then-self-clause-behind g c tells =
    let w = g.S.Store.world in
    let i = c.self.inside in
    let new = c.abandon_flush.new.self in
    let rest : AtRest (w i.tree.store) = subst (λ (s : g.row.S.Denot). AtRest (w s)) c.store.ensures (c.crashes_leave_versions.ensures tells) in
    let here = none_behind (w i.tree.store) (w i.tree.store) i.tree.core new.core rest.passes in
    let there = subst (λ (s : g.row.S.Denot). RemovesBehind (w i.tree.store) (w s) i.tree.core new.core) (sym c.abandon_flush.ensures.store) here in
    subst (λ (t : SeenLogged g.row.S.Denot). RemovesBehind (w t.store) (w new.store) t.core new.core) c.self.view_is there

pub returns-in_err-registered-clause-behind : goal.returns-in_err-registered-clause-behind
returns-in_err-registered-clause-behind g c tells =
    none_alone g.S.Store.world c.self.inside.tree c.register_tables.new.self c.self.inside.numbers.items c.self.inside.doubted c.args.self.now c.self.view_is (c.register_tables.ensures.upholds tells).passes

pub returns-then-self-clause-acts : goal.returns-then-self-clause-acts
returns-then-self-clause-acts g c tells =
    let w = g.S.Store.world in
    let i = c.self.inside in
    let job = c.args.job in
    let left = c.abandon_flush.new.self in
    let old = logged_with i.tree i.numbers.items i.doubted in
    let new = logged_with left i.numbers.items i.doubted in
    let rest : AtRest (w i.tree.store) = subst (λ (s : g.row.S.Denot). AtRest (w s)) c.store.ensures (c.crashes_leave_versions.ensures tells) in
    let same : left.core ≡ spent job.job.number i.tree.core = c.abandon_flush.ensures.core ∙ ap (λ (j : SeenJob). spent j.number i.tree.core) c.into_job.ensures in
    let there = subst (λ (s : g.row.S.Denot). Upholds (w i.tree.store) (w s) i.tree.core (spent job.job.number i.tree.core)) (sym c.abandon_flush.ensures.store) (spent_upholds (w i.tree.store) i.tree.core job.job.number rest) in
    let here = subst (λ (k : Core). Upholds (w i.tree.store) (w left.store) i.tree.core k) (sym same) there in
    subst (λ (t : SeenLogged g.row.S.Denot). RegistersAct job (Err Unrecoverable) (w t.store) (w left.store) t new) c.self.view_is (spent_acts job (w old.store) (w new.store) old new refl here same)

pub returns-in_err-registered-clause-acts : goal.returns-in_err-registered-clause-acts
returns-in_err-registered-clause-acts g c tells =
    let w = g.S.Store.world in
    let i = c.self.inside in
    let mid = c.register_tables.new.self in
    let job = c.args.job in
    let e = c.in_err-registered.field-0.0 in
    let old = logged_with i.tree i.numbers.items i.doubted in
    let new = logged_with mid i.numbers.items i.doubted in
    let small = subst (λ (t : SeenLogged g.row.S.Denot). t.core.seqno < 2 ^ 64) (sym c.self.view_is) c.counter_fits.ensures in
    let told = err_from_is_err_and c.from_residual.result c.from_residual.ensures.1 in
    subst (λ (t : SeenLogged g.row.S.Denot). RegistersAct job c.from_residual.result (w t.store) (w mid.store) t new) c.self.view_is
    (subst (λ (r : Result Registered Error). RegistersAct job r (w old.store) (w mid.store) old new) (sym (told.1 ∙ ap (λ (x : Error). Err x) told.2))
    (refused_acts job (w old.store) (w mid.store) old new refl c.if-self.false small c.flushes_are_deeds.ensures c.facts-2.ensures c.facts.ensures (c.register_tables.ensures.upholds tells) e c.in_err-registered.ensures.registers))

pub returns-clause-acts : goal.returns-clause-acts
returns-clause-acts g c tells =
    let w = g.S.Store.world in
    let i = c.self.inside in
    let mid = c.register_tables.new.self in
    let new = c.clean_log.new.self in
    let job = c.args.job in
    let a = c.in_ok-registered.registered in
    let old = logged_with i.tree i.numbers.items i.doubted in
    let small = subst (λ (t : SeenLogged g.row.S.Denot). t.core.seqno < 2 ^ 64) (sym c.self.view_is) c.counter_fits.ensures in
    let up = c.register_tables.ensures.upholds tells in
    let cleans = c.clean_log.ensures.cleans in
    let same = cleans.core in
    let b = leaves_behind (w old.store) (w mid.store) (w new.store) old.core mid.core new.core up same (c.clean_log.ensures.upholds tells) (c.clean_log.ensures.passes tells) in
    let rests = λ (no : c.clean_log.result.installed ≡ false). let stays = c.clean_log.ensures.still (sym cleans.installed ∙ no) in subst (λ (t : SeenLogged g.row.S.Denot). Upholds (w old.store) (w t.store) old.core t.core) (sym stays) up in
    subst (λ (t : SeenLogged g.row.S.Denot). RegistersAct job (Ok c.clean_log.result) (w t.store) (w new.store) t new) c.self.view_is
    (registered_acts job (w old.store) (w new.store) old new cleans.doubted c.if-self.false small c.flushes_are_deeds.ensures c.facts-2.ensures c.facts.ensures a c.clean_log.result mid.core c.in_ok-registered.ensures.registers cleans.installed same
    b.files c.plain_numbers_are_read.ensures b.passed b.either rests)

pub returns-then-self-clause-known : goal.returns-then-self-clause-known
returns-then-self-clause-known g c tells =
    let w = g.S.Store.world in
    let i = c.self.inside in
    let left = c.abandon_flush.new.self in
    let there = subst (λ (s : g.row.S.Denot). KeepsKnown (w i.tree.store) (w s) i.numbers.items i.numbers.items) (sym c.abandon_flush.ensures.store) (known_still (w i.tree.store) i.numbers.items) in
    subst (λ (t : SeenLogged g.row.S.Denot). KeepsKnown (w t.store) (w left.store) t.numbers i.numbers.items) c.self.view_is there

pub returns-in_err-registered-clause-known : goal.returns-in_err-registered-clause-known
returns-in_err-registered-clause-known g c tells =
    all_left g.S.Store.world c.self.inside.tree c.register_tables.new.self c.self.inside.numbers.items c.self.inside.doubted c.args.self.now c.self.view_is (c.register_tables.ensures.upholds tells).passes

pub returns-clause-known : goal.returns-clause-known
returns-clause-known g c tells = (left g c tells).known

pub returns-clause-passed_are_gone : goal.returns-clause-passed_are_gone
returns-clause-passed_are_gone g c tells installed cleaned =
    let i = c.self.inside in
    gone_left g.S.Store.world i.tree c.register_tables.new.self.core i.numbers.items i.doubted c.clean_log.new.self c.args.self.now c.self.view_is c.clean_log.ensures.cleans.core (c.clean_log.ensures.gone tells installed cleaned)

pub returns-then-self-clause-files : goal.returns-then-self-clause-files
returns-then-self-clause-files g c = record {
  causes = search rules;
  gone = search rules;
  rests = tt;
  refused = λ tells current. ⊎_elim (λ h. cc h) (λ h. cc h);
  no_call = search rules;
}

pub returns-in_err-registered-clause-files : goal.returns-in_err-registered-clause-files
returns-in_err-registered-clause-files g c =
    let told = err_from_is_err_and c.from_residual.result c.from_residual.ensures.1 in
    rw (← c.self.view_is, told.1, told.2) c.in_err-registered.ensures.files

pub returns-clause-files : goal.returns-clause-files
returns-clause-files g c =
    let w = g.S.Store.world in
    let i = c.self.inside in
    let mid = c.register_tables.new.self in
    let files = c.in_ok-registered.ensures.files in
    let cleans = c.clean_log.ensures.cleans in
    let store = λ (t : SeenLogged g.row.S.Denot). t.store in
    record {
      causes = rw (← c.self.view_is) (cleaned_cause c.in_ok-registered.registered c.clean_log.result (w i.tree.store) (w mid.store) (w c.clean_log.new.self.store) files.causes c.clean_log.ensures.causes);
      gone = λ tells installed cleaned. gone_behind w i.tree mid i.numbers.items i.doubted c.clean_log.new.self c.args.self.now c.self.view_is cleans.core (c.clean_log.ensures.others tells) (files.gone tells (sym cleans.installed ∙ installed) (cleans.cleaned cleaned));
      rests = λ isnt. let stale = sym cleans.installed ∙ isnt in ap store (c.clean_log.ensures.still stale) ∙ files.rests stale ∙ ap store c.self.view_is;
      refused = λ tells current. ⊎_elim (λ h. cc h) (λ h. cc h);
      no_call = search rules;
    }
