use Rattle.std.proofs.Common.{◌≡◌, IfOk, ap, subst, ◌∙◌}
use Rattle.lsm_below.specs.Keys.{Bytes}
use Rattle.lsm_below.specs.Entries.{plain, entry_at}
use Rattle.lsm_below.specs.declared.value_type.ValueType.TheVariants.{Value}
use Rattle.lsm_model.specs.Ops.{op_entry}
use Rattle.lsm_model.specs.declared.op.Op.TheVariants.{Set}
use Rattle.lsm_runs.specs.Runs.{TakesEntry}
use Rattle.lsm_runs.proofs.runner.insert.Goals as goal

pub returns-clause-ok : goal.returns-clause-ok
returns-clause-ok g c =
    let n = c.args.seqno in
    let made : plain c.from_components-entry.result ≡ op_entry c.args.key.now n (Set c.args.value.now) =
    ap plain c.from_components-entry.ensures ∙ ap (λ (k : Bytes). entry_at k n Value c.in_ok-share-2.field-0) c.in_ok-share.ensures ∙ ap (λ (v : Bytes). entry_at c.args.key.now n Value v) c.in_ok-share-2.ensures in
    subst (λ e. IfOk c.append.result (λ told. TakesEntry e told.reply told.entries c.args.state.now.core c.append.new.state.core)) made c.append.ensures.ok
