use Rattle.std.proofs.Common.{ap, subst, sym}
use Rattle.std.specs.FinMap.{empty}
use Rattle.lsm_logged.specs.Memory.{MemStore, world_of}
use Rattle.lsm_logged.specs.Levels.{SeenVersion}
use Rattle.lsm_logged.specs.Foreign.{AtRest}
use Rattle.lsm_logged.specs.Opening.{version_of}
use Rattle.example_log.specs.Written.{HasWritten}
use Rattle.example_log.proofs.Acknowledged.{has_one}
use Rattle.lsm_manifest.proofs.FindingLemmas.{nothing_in as none, nothing_stands}
use Rattle.example_log.proofs.lives.written.Goals as goal

pub returns : goal.returns
returns c =
    let store = c.args.store in
    let ready = c.crashes_settle.ensures.ready store none empty nothing_stands c.requires.new in
    let t = c.in_ok-tree.tree in
    let u = c.write.new.self in
    let opens = c.in_ok-tree.ensures in
    let settle = c.logs_can_be_settled.ensures.left store none (version_of t).log_from c.requires.new in
    let is = c.into_store-store.ensures in
    subst (HasWritten c.args.ops.items) (sym is) (record {
      core = u.core;
      one = has_one world_of store _ t u c.args.ops.items c.in_ok-write.field-0 c.tables_alone_stand.ensures opens c.requires.new (λ no. ap (λ (v : SeenVersion). v.levels) ((opens.takes tt).fresh no)) settle c.in_ok-write.ensures.writes (c.in_ok-write.ensures.acts tt);
      stored = (c.in_ok-write.ensures.upholds tt (opens.stored tt ready)).0;
      rest = subst (λ (s : MemStore). AtRest (world_of s)) is (c.crashes_leave_versions.ensures tt);
    })
