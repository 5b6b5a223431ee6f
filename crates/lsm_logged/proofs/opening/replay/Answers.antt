use Rattle.std.proofs.Common.{◌∙◌, Err, sym, subst, ap, [], ◌∷◌, ◌++◌, append_assoc}
use Rattle.std.proofs.lemmas.Result.{err_from_is_err_and}
use Rattle.std.specs.List.{AllByRecursion}
use Rattle.lsm_tables.specs.Image.{Fits}
use Rattle.lsm_model.specs.Ops.{op_entries}
use Rattle.lsm_logged.proofs.Replaying.{one_more}
use Rattle.lsm_logged.proofs.Taken.{only_memory}
use Rattle.lsm_logged.proofs.opening.replay.Goals as goal

pub loop-key-preserved : goal.loop-key-preserved
loop-key-preserved g c =
    let so_far = c.loop-key.invariant in
    record {
      core = one_more c.args.read.number c.loop-key.yielded c.in-Some.key c.in-Some.op c.into_entry.result c.args.tree.now.core c.loop-key.tree.core c.append_entry.new.self.core so_far.core c.into_entry.ensures c.in_ok-append_entry.ensures.appends.core;
      store = c.append_entry.ensures.store ∙ so_far.store;
      all = so_far.all ∙ (ap (λ l. c.loop-key.yielded ++ l) c.in-Some.ensures.steps.0 ∙ sym (append_assoc c.loop-key.yielded ((c.in-Some.key, c.in-Some.op) ∷ []) c.next.new.self.rest.items));
    }

pub returns-in_err-append_entry-clause-memory : goal.returns-in_err-append_entry-clause-memory
returns-in_err-append_entry-clause-memory g c fit small =
    let ops = c.loop-key.invariant.all ∙ ap (λ l. c.loop-key.yielded ++ l) c.in-Some.ensures.steps.0 in
    let p = err_from_is_err_and c.from_residual.result c.from_residual.ensures.1 in
    rw (p.1, p.2) (only_memory c.args.read.number c.loop-key.yielded c.next.new.self.rest.items c.in-Some.key c.in-Some.op c.into_entry.result (Err c.in_err-append_entry.field-0.0) c.loop-key.tree.core c.append_entry.new.self.core (subst (λ l. AllByRecursion Fits (op_entries c.args.read.number l)) ops fit) small c.into_entry.ensures c.in_err-append_entry.ensures.appends)
