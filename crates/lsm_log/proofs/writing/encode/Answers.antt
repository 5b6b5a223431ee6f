use Rattle.lsm_log.proofs.RecordSpells.{fits_at}
use Rattle.lsm_log.proofs.writing.encode.Goals as goal

pub put_operation-requires : goal.put_operation-requires
put_operation-requires c = fits_at c.args.number c.args.ops.now c.loop-operation.operation-index c.operation-item.result c.requires.each c.loop-operation-test.true c.operation-item.is
