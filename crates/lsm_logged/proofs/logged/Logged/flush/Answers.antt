use Rattle.std.proofs.Common.{◌≡◌, ◌⊎◌, ℕ, ◌<◌, ◌^◌, false, [], Option, Some, None, IsSome, Result, Ok, Err, refl, sym, ap, ◌∙◌, subst, rules}
use Rattle.std.proofs.lemmas.Result.{err_from_is_err_and}
use Rattle.lsm_below.specs.declared.error.Error.{Error}
use Rattle.lsm_below.specs.declared.error.Error.TheVariants.{Unrecoverable}
use Rattle.lsm_flush.specs.declared.jobs.Registered.{Registered}
use Rattle.lsm_state.specs.Flushes.{sealed_ids}
use Rattle.lsm_state.specs.WholeFlushes.{Flushes}
use Rattle.lsm_logged.specs.Keeping.{SeenLogged}
use Rattle.lsm_logged.specs.Removing.{KeepsKnown}
use Rattle.lsm_logged.specs.Acting.{FlushesAct}
use Rattle.lsm_logged.proofs.FlushActs.{unsure_flush, refused_flush, installed_flush, none_flush}
use Rattle.lsm_logged.proofs.Known.{LeavesLogged, known_still, leaves_logged, all_left, gone_left}
use Rattle.lsm_logged.proofs.Removals.{passes_alone, none_alone, leaves_behind}
use Rattle.lsm_logged.proofs.Gone.{gone_behind, cleaned_cause}
use Rattle.lsm_logged.proofs.Seen.{logged_with}
use Rattle.lsm_state.specs.Cleaning.{none_drawn}
use Rattle.lsm_state.proofs.WholeFlushes.{flushed_closed}
use Rattle.lsm_state.specs.Files.{FlushesFiles}
use Rattle.lsm_logged.proofs.logged.Logged.flush.Given.{Over}
use Rattle.lsm_logged.proofs.logged.Logged.flush.Goals as goal

-- what is left where the log was cleaned
module _ (g : Over) (c : goal.After-clean_log g) (tells : g.S.Store.tells) where
  left : LeavesLogged g.S.Store.world c.args.self.now c.clean_log.new.self
  left = leaves_logged g.S.Store.world c.self.inside.tree c.flush.new.self c.self.inside.numbers.items c.self.inside.doubted c.clean_log.new.self c.args.self.now c.self.view_is (c.flush.ensures.upholds tells) c.clean_log.ensures.cleans.core (c.clean_log.ensures.upholds tells) (c.clean_log.ensures.passes tells) (c.clean_log.ensures.known tells)

pub returns-in_err-flushed-clause-passes : goal.returns-in_err-flushed-clause-passes
returns-in_err-flushed-clause-passes g c tells =
    passes_alone g.S.Store.world c.self.inside.tree c.flush.new.self c.self.inside.numbers.items c.self.inside.doubted c.args.self.now c.self.view_is (c.flush.ensures.upholds tells).passes

pub returns-in_err-flushed-clause-behind : goal.returns-in_err-flushed-clause-behind
returns-in_err-flushed-clause-behind g c tells =
    none_alone g.S.Store.world c.self.inside.tree c.flush.new.self c.self.inside.numbers.items c.self.inside.doubted c.args.self.now c.self.view_is (c.flush.ensures.upholds tells).passes

pub returns-in-Some-clause-passes : goal.returns-in-Some-clause-passes
returns-in-Some-clause-passes g c tells = (left g c tells).left.passed

pub returns-in-Some-clause-behind : goal.returns-in-Some-clause-behind
returns-in-Some-clause-behind g c tells = (left g c tells).left.either

pub returns-in-Some-clause-upholds : goal.returns-in-Some-clause-upholds
returns-in-Some-clause-upholds g c tells = (left g c tells).left.files

pub returns-in-None-clause-behind : goal.returns-in-None-clause-behind
returns-in-None-clause-behind g c tells =
    none_alone g.S.Store.world c.self.inside.tree c.flush.new.self c.self.inside.numbers.items c.self.inside.doubted c.args.self.now c.self.view_is (c.flush.ensures.upholds tells).passes

pub returns-then-is_flush_unsure-clause-acts : goal.returns-then-is_flush_unsure-clause-acts
returns-then-is_flush_unsure-clause-acts g c tells =
    let w = g.S.Store.world in
    let i = c.self.inside in
    let old = logged_with i.tree i.numbers.items i.doubted in
    subst (λ (t : SeenLogged g.row.S.Denot). FlushesAct c.args.watermark (Err Unrecoverable) (w t.store) (w t.store) t t) c.self.view_is (unsure_flush c.args.watermark (w old.store) old (c.is_upheld.ensures tells))

pub returns-in_err-flushed-clause-acts : goal.returns-in_err-flushed-clause-acts
returns-in_err-flushed-clause-acts g c tells =
    let w = g.S.Store.world in
    let i = c.self.inside in
    let mid = c.flush.new.self in
    let e = c.in_err-flushed.field-0.0 in
    let old = logged_with i.tree i.numbers.items i.doubted in
    let new = logged_with mid i.numbers.items i.doubted in
    let sure : (old.doubted ≡ false) ⊎ (sealed_ids old.core ≡ []) = subst (λ (t : SeenLogged g.row.S.Denot). (t.doubted ≡ false) ⊎ (sealed_ids t.core ≡ [])) (sym c.self.view_is) (c.is_flush_unsure.ensures.sure c.if-is_flush_unsure.false) in
    let small = subst (λ (t : SeenLogged g.row.S.Denot). t.core.seqno < 2 ^ 64) (sym c.self.view_is) c.counter_fits.ensures in
    let told = err_from_is_err_and c.from_residual.result c.from_residual.ensures.1 in
    subst (λ (t : SeenLogged g.row.S.Denot). FlushesAct c.args.watermark c.from_residual.result (w t.store) (w mid.store) t new) c.self.view_is
    (subst (λ (r : Result (Option (ℕ × Registered)) Error). FlushesAct c.args.watermark r (w old.store) (w mid.store) old new) (sym (told.1 ∙ ap (λ (x : Error). Err x) told.2))
    (refused_flush c.args.watermark (w old.store) (w mid.store) old new sure refl small (c.flush.ensures.upholds tells) e c.in_err-flushed.ensures.flushes))

pub returns-in-Some-clause-acts : goal.returns-in-Some-clause-acts
returns-in-Some-clause-acts g c tells =
    let w = g.S.Store.world in
    let i = c.self.inside in
    let mid = c.flush.new.self in
    let new = c.clean_log.new.self in
    let p : ℕ × Registered = (c.in-Some.bytes, c.in-Some.registered) in
    let b : ℕ × Registered = (c.in-Some.bytes, c.clean_log.result) in
    let old = logged_with i.tree i.numbers.items i.doubted in
    let sure : (old.doubted ≡ false) ⊎ (sealed_ids old.core ≡ []) = subst (λ (t : SeenLogged g.row.S.Denot). (t.doubted ≡ false) ⊎ (sealed_ids t.core ≡ [])) (sym c.self.view_is) (c.is_flush_unsure.ensures.sure c.if-is_flush_unsure.false) in
    let small = subst (λ (t : SeenLogged g.row.S.Denot). t.core.seqno < 2 ^ 64) (sym c.self.view_is) c.counter_fits.ensures in
    let f = subst (λ (x : Option (ℕ × Registered)). Flushes c.args.watermark (Ok x) old.core mid.core) c.in-Some.is c.in_ok-flushed.ensures.flushes in
    let same = c.clean_log.ensures.cleans.core in
    let left = leaves_behind (w old.store) (w mid.store) (w new.store) old.core mid.core new.core (c.flush.ensures.upholds tells) same (c.clean_log.ensures.upholds tells) (c.clean_log.ensures.passes tells) in
    subst (λ (t : SeenLogged g.row.S.Denot). FlushesAct c.args.watermark (Ok (Some b)) (w t.store) (w new.store) t new) c.self.view_is
    (installed_flush c.args.watermark (w old.store) (w new.store) old new sure c.clean_log.ensures.cleans.doubted small p b mid.core f same
    left.files c.plain_numbers_are_read.ensures left.passed left.either)

pub returns-in-None-clause-acts : goal.returns-in-None-clause-acts
returns-in-None-clause-acts g c tells =
    let w = g.S.Store.world in
    let i = c.self.inside in
    let mid = c.flush.new.self in
    let old = logged_with i.tree i.numbers.items i.doubted in
    let new = logged_with mid i.numbers.items i.doubted in
    let sure : (old.doubted ≡ false) ⊎ (sealed_ids old.core ≡ []) = subst (λ (t : SeenLogged g.row.S.Denot). (t.doubted ≡ false) ⊎ (sealed_ids t.core ≡ [])) (sym c.self.view_is) (c.is_flush_unsure.ensures.sure c.if-is_flush_unsure.false) in
    let small = subst (λ (t : SeenLogged g.row.S.Denot). t.core.seqno < 2 ^ 64) (sym c.self.view_is) c.counter_fits.ensures in
    let f = subst (λ (x : Option (ℕ × Registered)). Flushes c.args.watermark (Ok x) old.core mid.core) c.in-None.is c.in_ok-flushed.ensures.flushes in
    subst (λ (t : SeenLogged g.row.S.Denot). FlushesAct c.args.watermark (Ok None) (w t.store) (w mid.store) t new) c.self.view_is
    (none_flush c.args.watermark (w old.store) (w mid.store) old new sure refl small (c.flush.ensures.upholds tells) f)

pub returns-in_err-flushed-clause-known : goal.returns-in_err-flushed-clause-known
returns-in_err-flushed-clause-known g c tells =
    all_left g.S.Store.world c.self.inside.tree c.flush.new.self c.self.inside.numbers.items c.self.inside.doubted c.args.self.now c.self.view_is (c.flush.ensures.upholds tells).passes

pub returns-in-None-clause-known : goal.returns-in-None-clause-known
returns-in-None-clause-known g c tells =
    all_left g.S.Store.world c.self.inside.tree c.flush.new.self c.self.inside.numbers.items c.self.inside.doubted c.args.self.now c.self.view_is (c.flush.ensures.upholds tells).passes

pub returns-then-is_flush_unsure-clause-known : goal.returns-then-is_flush_unsure-clause-known
returns-then-is_flush_unsure-clause-known g c tells =
    let w = g.S.Store.world in
    let i = c.self.inside in
    subst (λ (t : SeenLogged g.row.S.Denot). KeepsKnown (w t.store) (w t.store) t.numbers t.numbers) c.self.view_is (known_still (w i.tree.store) i.numbers.items)

pub returns-in-Some-clause-known : goal.returns-in-Some-clause-known
returns-in-Some-clause-known g c tells = (left g c tells).known

pub returns-in-Some-clause-passed_are_gone : goal.returns-in-Some-clause-passed_are_gone
returns-in-Some-clause-passed_are_gone g c tells cleaned =
    let i = c.self.inside in
    let mid = c.flush.new.self in
    let f = subst (λ (x : Option (ℕ × Registered)). Flushes c.args.watermark (Ok x) i.tree.core mid.core) c.in-Some.is c.in_ok-flushed.ensures.flushes in
    let gone = c.clean_log.ensures.gone tells (c.clean_log.ensures.cleans.installed ∙ f.installs.installed) cleaned in
    gone_left g.S.Store.world i.tree mid.core i.numbers.items i.doubted c.clean_log.new.self c.args.self.now c.self.view_is c.clean_log.ensures.cleans.core gone

pub returns-then-is_flush_unsure-clause-files : goal.returns-then-is_flush_unsure-clause-files
returns-then-is_flush_unsure-clause-files g c =
    record {
      causes = search rules;
      gone = search rules;
      rests = search rules;
      refused = λ tells small known. none_drawn _ _ (g.S.Store.world c.args.self.now.store) (g.S.Store.world c.args.self.now.store) refl;
      no_call = search rules;
      flush_open = search rules;
    }

pub returns-in_err-flushed-clause-files : goal.returns-in_err-flushed-clause-files
returns-in_err-flushed-clause-files g c =
    let told = err_from_is_err_and c.from_residual.result c.from_residual.ensures.1 in
    rw (← c.self.view_is, told.1, told.2) c.in_err-flushed.ensures.files

pub returns-in-Some-clause-files : goal.returns-in-Some-clause-files
returns-in-Some-clause-files g c =
    let w = g.S.Store.world in
    let i = c.self.inside in
    let mid = c.flush.new.self in
    let files = subst (λ (x : Option (ℕ × Registered)). FlushesFiles (Ok x) g.S.Store.tells w i.tree mid) c.in-Some.is c.in_ok-flushed.ensures.files in
    let cleans = c.clean_log.ensures.cleans in
    let f = subst (λ (x : Option (ℕ × Registered)). Flushes c.args.watermark (Ok x) i.tree.core mid.core) c.in-Some.is c.in_ok-flushed.ensures.flushes in
    let none_open = flushed_closed c.args.watermark (c.in-Some.bytes, c.in-Some.registered) i.tree.core mid.core f in
    record {
      causes = rw (← c.self.view_is) (cleaned_cause c.in-Some.registered c.clean_log.result (w i.tree.store) (w mid.store) (w c.clean_log.new.self.store) files.causes c.clean_log.ensures.causes);
      gone = λ tells cleaned. gone_behind w i.tree mid i.numbers.items i.doubted c.clean_log.new.self c.args.self.now c.self.view_is cleans.core (c.clean_log.ensures.others tells) (files.gone tells (cleans.cleaned cleaned));
      rests = search rules;
      refused = search rules;
      no_call = search rules;
      flush_open = λ some. absurd (none_open (subst (λ (t : SeenLogged g.row.S.Denot). IsSome t.core.flush) (sym c.self.view_is) some));
    }

pub returns-in-None-clause-files : goal.returns-in-None-clause-files
returns-in-None-clause-files g c =
    rw (← c.self.view_is) (subst (λ (x : Option (ℕ × Registered)). FlushesFiles (Ok x) g.S.Store.tells g.S.Store.world c.self.inside.tree c.flush.new.self) c.in-None.is c.in_ok-flushed.ensures.files)
