use Rattle.std.proofs.lemmas.Result.{err_from_is_err_and}
use Rattle.lsm_tables.specs.Reading.{many}
use Rattle.lsm_tables.specs.Spellings.{goes_on, is_done}
use Rattle.lsm_log.specs.RecordReading.{spelled_at}
use Rattle.lsm_log.proofs.RecordSpells.{op_fails}
use Rattle.lsm_log.proofs.reading.operations_of.Goals as goal

pub returns-in_err-op : goal.returns-in_err-op
returns-in_err-op c =
    let p = err_from_is_err_and c.from_residual-in_err-op.result c.from_residual-in_err-op.ensures.1 in
    rw (p.1, p.2) (op_fails c.in_err-op.field-0.0 c.loop.ops.items c.args.count c.loop.counter c.loop.bytes (many spelled_at c.args.count c.args.bytes.now) c.loop-test.true c.in_err-op.ensures c.loop.invariant)

pub loop-preserved : goal.loop-preserved
loop-preserved c =
    let e = c.in_ok-push.ensures.items in
    rw e (goes_on spelled_at c.loop.ops.items c.args.count c.loop.counter c.loop.bytes c.in_ok-op.op c.operation_of.new.bytes (many spelled_at c.args.count c.args.bytes.now) c.loop-test.true c.in_ok-op.ensures c.loop.invariant)

pub returns : goal.returns
returns c = is_done spelled_at c.loop.ops.items c.args.count c.loop.counter c.loop.bytes (many spelled_at c.args.count c.args.bytes.now) c.loop-test.false c.loop.invariant
