use Rattle.std.proofs.Common.{◌≡◌, ◌∙◌, ◌<◌, ◌^◌, get_or, Err, inl, refl, sym, ap, subst, rules}
use Rattle.std.specs.List.{AllByRecursion}
use Rattle.lsm_tables.specs.Image.{Fits}
use Rattle.std.proofs.lemmas.List.{take_all}
use Rattle.std.proofs.lemmas.Result.{err_from_is_err_and}
use Rattle.std.proofs.lemmas.List.Elements.{Contains-get_or, All-contains}
use Rattle.lsm_below.specs.declared.error.Error.{Error}
use Rattle.lsm_below.specs.declared.error.Error.TheVariants.{Unrecoverable}
use Rattle.lsm_store.specs.World.{Image, Same}
use Rattle.lsm_store.specs.Moments.{same_none, same_then}
use Rattle.lsm_model.specs.Ops.{op_entries}
use Rattle.lsm_commit.specs.Foreign.{AtRest}
use Rattle.lsm_log.specs.Logs.{IsRecordAt, IsNoRecordAt}
use Rattle.lsm_log.proofs.Loaded.{gives_same}
use Rattle.lsm_state.specs.Core.{written_all, versions_left}
use Rattle.lsm_state.specs.Commits.{UpholdsFiles}
use Rattle.lsm_state.proofs.Installing.{files_join}
use Rattle.lsm_state.proofs.Upholding.{upheld_still}
use Rattle.lsm_logged.specs.Opening.{ReplaysEach}
use Rattle.lsm_logged.proofs.Replaying.{none_replayed, one_replayed, written_upholds}
use Rattle.lsm_logged.proofs.opening.replay_each.Goals as goal

pub loop-number-init : goal.loop-number-init
loop-number-init g c =
    let w = g.S.Store.world in
    let tree = c.args.tree.now in
    record {
      replays = none_replayed g.S.Store.tells (w tree.store).gives tree.core;
      same = λ tells. same_none (w tree.store);
      upholds = λ tells. (upheld_still (w tree.store) tree.core tree.core refl refl (subst (λ (s : g.row.S.Denot). AtRest (w s)) c.store.ensures (c.crashes_leave_versions.ensures tells))).files;
      failures = refl;
    }

pub returns-in_err-read-clause-bad : goal.returns-in_err-read-clause-bad
returns-in_err-read-clause-bad g c tells told =
    let w = g.S.Store.world in
    let ns = c.args.numbers.now in
    let i = c.loop-number.number-index in
    let k = get_or ns i 0 in
    let gives = gives_same (w c.args.tree.now.store) (w c.loop-number.tree.store) (c.loop-number.invariant.same tells) in
    let p = err_from_is_err_and c.from_residual.result c.from_residual.ensures.1 in
    let known = rw (p.1, p.2) at told in
    let same : c.in_err-read.field-0.0 ≡ Unrecoverable = cc known in
    (k, Contains-get_or ns i 0 c.loop-number-test.true, subst (λ (image : Image). IsNoRecordAt image k) gives (c.in_err-read.ensures.bad tells (ap (λ (e : Error). Err e) same)))

pub loop-number-preserved : goal.loop-number-preserved
loop-number-preserved g c =
    let w = g.S.Store.world in
    let ns = c.args.numbers.now in
    let i = c.loop-number.number-index in
    let so_far = c.loop-number.invariant in
    let old = c.args.tree.now in
    let mid = c.loop-number.tree in
    let with = c.read_record.new.self in
    let new = c.replay.new.tree in
    let r = c.in_ok-read.read in
    let did = c.in_ok-read.ensures in
    let wrote = c.in_ok-replay.ensures in
    let at : g.S.Store.tells → IsRecordAt (w old.store).gives (get_or ns i 0) r = λ tells. subst (λ (image : Image). IsRecordAt image (get_or ns i 0) r) (gives_same (w old.store) (w mid.store) (so_far.same tells)) (did.read tells) in
    let core = wrote.ok ∙ ap (written_all (op_entries r.number r.ops)) did.core in
    record {
      replays = one_replayed g.S.Store.tells (w old.store).gives ns i r old.core mid.core new.core so_far.replays c.loop-number-test.true did.number at core;
      same = λ tells. subst (λ (s : g.row.S.Denot). Same (w old.store) (w s)) (sym wrote.store) (same_then (w old.store) (w mid.store) (w with.store) (so_far.same tells) (did.same tells));
      upholds = λ tells.
          let read = subst (λ (s : g.row.S.Denot). UpholdsFiles (w mid.store) (w s) mid.core with.core) (sym wrote.store) (did.upholds tells) in
          let written = written_upholds (w mid.store) (w new.store) (op_entries r.number r.ops) mid.core with.core new.core wrote.ok read in
          files_join (w old.store) (w mid.store) (w new.store) old.core mid.core new.core (ap versions_left core) (so_far.upholds tells) written;
      failures = ap (λ (s : g.row.S.Denot). (w s).failures) wrote.store ∙ search rules;
    }

pub returns-clause-replays : goal.returns-clause-replays
returns-clause-replays g c =
    let w = g.S.Store.world in
    let ns = c.args.numbers.now in
    subst (λ l. ReplaysEach g.S.Store.tells (w c.args.tree.now.store).gives l c.args.tree.now.core c.loop-number.tree.core) (take_all c.loop-number.number-index ns c.loop-number-test.false) c.loop-number.invariant.replays

pub returns-in_err-replay-clause-told : goal.returns-in_err-replay-clause-told
returns-in_err-replay-clause-told g c tells small =
    let w = g.S.Store.world in
    let ns = c.args.numbers.now in
    let i = c.loop-number.number-index in
    let k = get_or ns i 0 in
    let r = c.in_ok-read.read in
    let did = c.in_ok-read.ensures in
    let fit = subst (λ n. AllByRecursion Fits (op_entries n r.ops)) (sym did.number) (did.read tells).reads.batch.each in
    let lt = subst (λ n. n < 2 ^ 63) (sym did.number) (All-contains (λ n. n < 2 ^ 63) ns k small (Contains-get_or ns i 0 c.loop-number-test.true)) in
    let p = err_from_is_err_and c.from_residual-in_err-replay.result c.from_residual-in_err-replay.ensures.1 in
    rw (p.1, p.2) (inl (inl (c.in_err-replay.ensures.memory fit lt)))
