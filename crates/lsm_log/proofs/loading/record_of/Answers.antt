use Rattle.std.proofs.Common.{◌≡◌, [], refl, subst, arith}
use Rattle.lsm_log.specs.Records.{IsRecordOf}
use Rattle.lsm_log.proofs.loading.record_of.Goals as goal

pub returns-then-record-number-clause-bad : goal.returns-then-record-number-clause-bad
returns-then-record-number-clause-bad c told ops is =
    let r = c.in-Ok.record in
    let bytes = c.args.content.items in
    let read : IsRecordOf r.number r.ops bytes = subst (IsRecordOf r.number r.ops) c.in_ok-from_vec.ensures.ok c.in-Ok.ensures.read in
    let same : r.number ≡ c.args.number = (c.no_record_begins_another.ensures r.number c.args.number r.ops ops bytes bytes [] [] read is refl).0 in
    omega (arith, same, c.if-record-number.true)
