use Rattle.std.proofs.Common.{◌≡◌, ◌<◌, ◌^◌, true, Err, IsSome, inl, inr, sym, ◌∙◌, rules}
use Rattle.lsm_below.specs.declared.error.Error.TheVariants.{CommitUnknown}
use Rattle.lsm_commit.specs.Causes.{HasCause, BlamesStore, causes_then}
use Rattle.lsm_state.specs.Kept.{KeepsTables}
use Rattle.lsm_state.specs.Cleaning.{RemovesDrawn, LeavesNoVersions}
use Rattle.lsm_state.specs.WholeFlushes.{Flushes, MarksFlush}
use Rattle.lsm_state.proofs.Installing.{upholds_join}
use Rattle.lsm_state.proofs.Causing.{removes_drawn}
use Rattle.std.proofs.Common.{ap, subst, Ok}
use Rattle.std.proofs.lemmas.Result.{err_from_is_err_and}
use Rattle.lsm_state.specs.Core.{versions_left}
use Rattle.lsm_state.specs.Flushes.{Begins}
use Rattle.lsm_state.proofs.WholeFlushes.{upholds_as_it_was, upholds_begun, upholds_whole, begun_core, made_history, flushed, refused, marks_flushed, marks_refused, certain, closed, left_below, drawn_below}
use Rattle.lsm_state.proofs.tree.TreeState.flush_marking.Goals as goal

pub returns-in_err-job-clause-upholds : goal.returns-in_err-job-clause-upholds
returns-in_err-job-clause-upholds g c tells =
    upholds_as_it_was g.S.Store.world c.args.self.now c.begin_flush.new.self c.begin_flush.ensures.store c.in_err-job.ensures.begins.err (c.stays_stored.ensures tells)

pub returns-in_default-clause-upholds : goal.returns-in_default-clause-upholds
returns-in_default-clause-upholds g c tells =
    upholds_as_it_was g.S.Store.world c.args.self.now c.begin_flush.new.self c.begin_flush.ensures.store (c.in_ok-job.ensures.begins.some c.in_default.is).1 (c.stays_stored.ensures tells)

pub returns-in_err-written-clause-upholds : goal.returns-in_err-written-clause-upholds
returns-in_err-written-clause-upholds g c tells =
    let begins = subst (λ o. Begins (Ok o) c.args.self.now.core c.begin_flush.new.self.core) c.in-Some.is c.in_ok-job.ensures.begins in
    upholds_begun c.args.self.now.core c.begin_flush.new.self.core c.in-Some.job begins (g.S.Store.world c.args.self.now.store) (g.S.Store.world c.begin_flush.new.self.store) (g.S.Store.world c.write_job.new.self.store) c.write_job.new.self.core (ap g.S.Store.world c.begin_flush.ensures.store) (c.stays_stored.ensures tells) (c.write_job.ensures.upholds tells)

pub returns-in_err-written-clause-files : goal.returns-in_err-written-clause-files
returns-in_err-written-clause-files g c =
    let w = g.S.Store.world in
    let old = c.args.self.now in
    let mid = c.begin_flush.new.self in
    let made = c.write_job.new.self in
    let begins = subst (λ o. Begins (Ok o) old.core mid.core) c.in-Some.is c.in_ok-job.ensures.begins in
    let same = ap (λ k. k.next_table) (begun_core old.core mid.core c.in-Some.job begins) in
    let p = err_from_is_err_and c.from_residual-in_err-written.result c.from_residual-in_err-written.ensures.1 in
    let did : g.S.Store.tells → old.core.next_table < 2 ^ 63 → RemovesDrawn old.core.next_table made.core.next_table (w mid.store) (w made.store) = λ tells small. subst (λ n. n < 2 ^ 63 → RemovesDrawn n made.core.next_table (w mid.store) (w made.store)) same (c.in_err-written.ensures.refused tells) small in
    record {
      causes = search rules;
      gone = search rules;
      rests = search rules;
      refused = λ tells small. rw (p.1, p.2) (λ isnt. subst (λ z. RemovesDrawn old.core.next_table made.core.next_table (w z) (w made.store)) c.begin_flush.ensures.store (did tells small));
      no_call = search rules;
      flush_open = λ some. let z = subst IsSome (closed old.core mid.core c.in-Some.job begins) some in absurd (cc z);
    }

pub remove_drawn-requires : goal.remove_drawn-requires
remove_drawn-requires g c =
    let begins = subst (λ o. Begins (Ok o) c.args.self.now.core c.begin_flush.new.self.core) c.in-Some.is c.in_ok-job.ensures.begins in
    let isnt : c.in-Err.error ≡ CommitUnknown → ⊥ = search rules in
    let left = refused c.args.watermark c.args.self.now.core c.begin_flush.new.self.core c.write_job.new.self.core c.in-Some.job c.in_ok-written.written begins c.in_ok-written.ensures.writes c.register.new.self.core c.in-Err.error c.in-Err.ensures.registers c.in-Err.ensures.lost in
    let first : c.get-first.result ≡ c.args.self.now.core.next_table = c.get-first.ensures ∙ ap (λ t. t.core.next_table) c.self.view_is in
    let kept = subst (λ t. KeepsTables t.core.flush t.core.history t.core.next_table) c.self.view_is c.self.invariant.1 in
    record {
      certain = left.known isnt ∙ certain c.args.self.now.core c.begin_flush.new.self.core c.in-Some.job begins;
      fresh = λ small. left_below c.get-first.result c.args.self.now.core c.register.new.self.core left.err (drawn_below c.get-first.result c.args.self.now.core kept first small);
    }

pub returns-in-Ok-clause-flushes : goal.returns-in-Ok-clause-flushes
returns-in-Ok-clause-flushes g c =
    let begins = subst (λ o. Begins (Ok o) c.args.self.now.core c.begin_flush.new.self.core) c.in-Some.is c.in_ok-job.ensures.begins in
    flushed c.args.watermark c.args.self.now.core c.begin_flush.new.self.core c.write_job.new.self.core c.in-Some.job c.in_ok-written.written begins c.in_ok-written.ensures.writes c.register.new.self.core c.in-Ok.registered c.in-Ok.ensures.registers c.sealed_size-size.result c.sealed_size-size.ensures c.in-Ok.ensures.deeds

pub returns-in-Ok-clause-marks : goal.returns-in-Ok-clause-marks
returns-in-Ok-clause-marks g c =
    let begins = subst (λ o. Begins (Ok o) c.args.self.now.core c.begin_flush.new.self.core) c.in-Some.is c.in_ok-job.ensures.begins in
    marks_flushed c.args.watermark c.args.self.now.core c.begin_flush.new.self.core c.write_job.new.self.core c.in-Some.job c.in_ok-written.written begins c.in_ok-written.ensures.writes c.register.new.self.core c.in-Ok.registered c.in-Ok.ensures.registers c.sealed_size-size.result

pub returns-in-Ok-clause-upholds : goal.returns-in-Ok-clause-upholds
returns-in-Ok-clause-upholds g c tells =
    let begins = subst (λ o. Begins (Ok o) c.args.self.now.core c.begin_flush.new.self.core) c.in-Some.is c.in_ok-job.ensures.begins in
    upholds_whole c.args.watermark c.args.self.now.core c.begin_flush.new.self.core c.write_job.new.self.core c.in-Some.job c.in_ok-written.written begins c.in_ok-written.ensures.writes (g.S.Store.world c.args.self.now.store) (g.S.Store.world c.begin_flush.new.self.store) (g.S.Store.world c.write_job.new.self.store) (g.S.Store.world c.register.new.self.store) c.register.new.self.core (ap g.S.Store.world c.begin_flush.ensures.store) (c.stays_stored.ensures tells) (c.write_job.ensures.upholds tells) (c.register.ensures.upholds tells)

pub returns-in-Ok-clause-files : goal.returns-in-Ok-clause-files
returns-in-Ok-clause-files g c =
    let begins = subst (λ o. Begins (Ok o) c.args.self.now.core c.begin_flush.new.self.core) c.in-Some.is c.in_ok-job.ensures.begins in
    let done = flushed c.args.watermark c.args.self.now.core c.begin_flush.new.self.core c.write_job.new.self.core c.in-Some.job c.in_ok-written.written begins c.in_ok-written.ensures.writes c.register.new.self.core c.in-Ok.registered c.in-Ok.ensures.registers c.sealed_size-size.result c.sealed_size-size.ensures c.in-Ok.ensures.deeds in
    record {
      causes = search rules;
      gone = λ tells whole. subst (λ h. LeavesNoVersions (g.S.Store.world c.register.new.self.store) h c.register.new.self.core.history) (made_history c.args.watermark c.args.self.now.core c.begin_flush.new.self.core c.write_job.new.self.core c.in-Some.job c.in_ok-written.written begins c.in_ok-written.ensures.writes) (c.in-Ok.ensures.gone tells done.installs.installed whole);
      rests = search rules;
      refused = search rules;
      no_call = search rules;
      flush_open = λ some. let z = subst IsSome (closed c.args.self.now.core c.begin_flush.new.self.core c.in-Some.job begins) some in absurd (cc z);
    }

pub returns-in-Err-CommitUnknown-clause-flushes : goal.returns-in-Err-CommitUnknown-clause-flushes
returns-in-Err-CommitUnknown-clause-flushes g c =
    let begins = subst (λ o. Begins (Ok o) c.args.self.now.core c.begin_flush.new.self.core) c.in-Some.is c.in_ok-job.ensures.begins in
    subst (λ e. Flushes c.args.watermark (Err e) c.args.self.now.core c.register.new.self.core) c.in-Err-CommitUnknown.field-0-is
    (refused c.args.watermark c.args.self.now.core c.begin_flush.new.self.core c.write_job.new.self.core c.in-Some.job c.in_ok-written.written begins c.in_ok-written.ensures.writes c.register.new.self.core c.in-Err-CommitUnknown.field-0 c.in-Err-CommitUnknown.ensures.registers c.in-Err-CommitUnknown.ensures.lost)

pub returns-in-Err-CommitUnknown-clause-marks : goal.returns-in-Err-CommitUnknown-clause-marks
returns-in-Err-CommitUnknown-clause-marks g c =
    let begins = subst (λ o. Begins (Ok o) c.args.self.now.core c.begin_flush.new.self.core) c.in-Some.is c.in_ok-job.ensures.begins in
    subst (λ e. MarksFlush c.args.watermark true (Err e) c.args.self.now.core c.register.new.self.core) c.in-Err-CommitUnknown.field-0-is
    (marks_refused c.args.watermark c.args.self.now.core c.begin_flush.new.self.core c.write_job.new.self.core c.in-Some.job c.in_ok-written.written begins c.in_ok-written.ensures.writes c.register.new.self.core c.in-Err-CommitUnknown.field-0 c.in-Err-CommitUnknown.ensures.registers)

pub returns-in-Err-CommitUnknown-clause-upholds : goal.returns-in-Err-CommitUnknown-clause-upholds
returns-in-Err-CommitUnknown-clause-upholds g c tells =
    let begins = subst (λ o. Begins (Ok o) c.args.self.now.core c.begin_flush.new.self.core) c.in-Some.is c.in_ok-job.ensures.begins in
    upholds_whole c.args.watermark c.args.self.now.core c.begin_flush.new.self.core c.write_job.new.self.core c.in-Some.job c.in_ok-written.written begins c.in_ok-written.ensures.writes (g.S.Store.world c.args.self.now.store) (g.S.Store.world c.begin_flush.new.self.store) (g.S.Store.world c.write_job.new.self.store) (g.S.Store.world c.register.new.self.store) c.register.new.self.core (ap g.S.Store.world c.begin_flush.ensures.store) (c.stays_stored.ensures tells) (c.write_job.ensures.upholds tells) (c.register.ensures.upholds tells)

pub returns-in-Err-CommitUnknown-clause-files : goal.returns-in-Err-CommitUnknown-clause-files
returns-in-Err-CommitUnknown-clause-files g c =
    let begins = subst (λ o. Begins (Ok o) c.args.self.now.core c.begin_flush.new.self.core) c.in-Some.is c.in_ok-job.ensures.begins in
    record {
      causes = search rules;
      gone = search rules;
      rests = search rules;
      refused = search rules;
      no_call = search rules;
      flush_open = λ some. let z = subst IsSome (closed c.args.self.now.core c.begin_flush.new.self.core c.in-Some.job begins) some in absurd (cc z);
    }

pub returns-in-Err : goal.returns-in-Err
returns-in-Err g c =
    let w = g.S.Store.world in
    let old = c.args.self.now in
    let reg = c.register.new.self in
    let new = c.remove_drawn.new.self in
    let begins = subst (λ o. Begins (Ok o) c.args.self.now.core c.begin_flush.new.self.core) c.in-Some.is c.in_ok-job.ensures.begins in
    let behind = c.remove_drawn.ensures in
    let both = causes_then _ _ (BlamesStore c.in-Err.error) (w c.begin_flush.new.self.store) (w c.write_job.new.self.store) (w reg.store) c.write_job.ensures.causes c.in-Err.ensures.causes (λ blamed. inr blamed) in
    let all = subst (λ z. HasCause (BlamesStore c.in-Err.error) (w z) (w reg.store)) c.begin_flush.ensures.store both in
    record {
      flushes = subst (Flushes c.args.watermark (Err c.in-Err.error) old.core) (sym behind.core) (refused c.args.watermark c.args.self.now.core c.begin_flush.new.self.core c.write_job.new.self.core c.in-Some.job c.in_ok-written.written begins c.in_ok-written.ensures.writes c.register.new.self.core c.in-Err.error c.in-Err.ensures.registers c.in-Err.ensures.lost);
      marks = subst (MarksFlush c.args.watermark true (Err c.in-Err.error) old.core) (sym behind.core) (marks_refused c.args.watermark c.args.self.now.core c.begin_flush.new.self.core c.write_job.new.self.core c.in-Some.job c.in_ok-written.written begins c.in_ok-written.ensures.writes c.register.new.self.core c.in-Err.error c.in-Err.ensures.registers);
      unmarked = λ h. absurd (cc h);
      upholds = λ tells. upholds_join (w old.store) (w reg.store) (w new.store) old.core reg.core new.core (ap versions_left behind.core) (upholds_whole c.args.watermark c.args.self.now.core c.begin_flush.new.self.core c.write_job.new.self.core c.in-Some.job c.in_ok-written.written begins c.in_ok-written.ensures.writes (g.S.Store.world c.args.self.now.store) (g.S.Store.world c.begin_flush.new.self.store) (g.S.Store.world c.write_job.new.self.store) (g.S.Store.world c.register.new.self.store) c.register.new.self.core (ap g.S.Store.world c.begin_flush.ensures.store) (c.stays_stored.ensures tells) (c.write_job.ensures.upholds tells) (c.register.ensures.upholds tells)) (behind.upholds tells);
      files = record {
        causes = causes_then _ ⊥ _ (w old.store) (w reg.store) (w new.store) all behind.causes (λ blamed. inl blamed);
        gone = λ tells. tt;
        rests = tt;
        refused = λ tells small isnt. removes_drawn w c.get-first.result old reg new (c.get-first.ensures ∙ ap (λ t. t.core.next_table) c.self.view_is) behind.core all.rises (behind.gone tells) small;
        no_call = λ some. let z = subst IsSome (certain old.core c.begin_flush.new.self.core c.in-Some.job begins) some in absurd (cc z);
        flush_open = λ some. let z = subst IsSome (closed old.core c.begin_flush.new.self.core c.in-Some.job begins) some in absurd (cc z);
      };
    }
