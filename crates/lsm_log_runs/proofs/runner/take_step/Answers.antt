use Rattle.std.proofs.Common.{IfOk, refl, subst, sym}
use Rattle.lsm_runs.specs.Compacting.{strategies_of}
use Rattle.lsm_log_runs.specs.Doing.{Acts}
use Rattle.lsm_log_runs.specs.Slots.{beside}
use Rattle.lsm_runs.specs.declared.steps.Step.TheVariants as run
use Rattle.lsm_log_runs.proofs.Causing.{read_cause, rotate_cause, table_id_cause, moment_cause, truth_cause}
use Rattle.lsm_log_runs.proofs.runner.take_step.Goals as goal

pub returns-in-MajorCompact-clause-acts : goal.returns-in-MajorCompact-clause-acts
returns-in-MajorCompact-clause-acts g c tells =
    let strategies = strategies_of (λ b. (goal.CompactionStrategy-dyn g (b.vtable, b.value)).may_choose b.value) (λ b. (goal.CompactionStrategy-dyn g (b.vtable, b.value)).may_refuse b.value) c.args.strategies.now in
    let world = g.S.Store.world in
    let old = c.args.tree.now in
    let new = c.major_compact.new.tree in
    subst (λ step. Acts strategies step c.major_compact.result (world old.store) (world new.store) (beside old c.args.slots.now) (beside new c.args.slots.now)) (sym c.in-MajorCompact.is) (c.major_compact.ensures.acts tells)

pub returns-in-DropRange-clause-acts : goal.returns-in-DropRange-clause-acts
returns-in-DropRange-clause-acts g c tells =
    let strategies = strategies_of (λ b. (goal.CompactionStrategy-dyn g (b.vtable, b.value)).may_choose b.value) (λ b. (goal.CompactionStrategy-dyn g (b.vtable, b.value)).may_refuse b.value) c.args.strategies.now in
    let world = g.S.Store.world in
    let old = c.args.tree.now in
    let new = c.drop_range.new.tree in
    subst (λ step. IfOk c.drop_range.result (λ reply. Acts strategies step reply (world old.store) (world new.store) (beside old c.args.slots.now) (beside new c.args.slots.now))) (sym c.in-DropRange.is) (c.drop_range.ensures.acts tells)

pub returns-in-GetNextTableId-clause-acts : goal.returns-in-GetNextTableId-clause-acts
returns-in-GetNextTableId-clause-acts g c tells =
    let strategies = strategies_of (λ b. (goal.CompactionStrategy-dyn g (b.vtable, b.value)).may_choose b.value) (λ b. (goal.CompactionStrategy-dyn g (b.vtable, b.value)).may_refuse b.value) c.args.strategies.now in
    let world = g.S.Store.world in
    let old = c.args.tree.now in
    let new = c.get_next_table_id.new.tree in
    subst (λ step. Acts strategies step c.get_next_table_id.result (world old.store) (world new.store) (beside old c.args.slots.now) (beside new c.args.slots.now)) (sym c.in-GetNextTableId.is) (c.get_next_table_id.ensures.acts tells)

pub returns-in-SetMoment-clause-acts : goal.returns-in-SetMoment-clause-acts
returns-in-SetMoment-clause-acts g c tells =
    let strategies = strategies_of (λ b. (goal.CompactionStrategy-dyn g (b.vtable, b.value)).may_choose b.value) (λ b. (goal.CompactionStrategy-dyn g (b.vtable, b.value)).may_refuse b.value) c.args.strategies.now in
    let world = g.S.Store.world in
    let old = c.args.tree.now in
    let new = c.set_moment.new.tree in
    subst (λ step. Acts strategies step c.set_moment.result (world old.store) (world new.store) (beside old c.args.slots.now) (beside new c.args.slots.now)) (sym c.in-SetMoment.is) (c.set_moment.ensures.acts tells)

pub returns-in-Compact-clause-ok : goal.returns-in-Compact-clause-ok
returns-in-Compact-clause-ok g c = rw c.in-Compact.is (c.compact.ensures.takes, refl)

pub returns-in-Compact-clause-acts : goal.returns-in-Compact-clause-acts
returns-in-Compact-clause-acts g c tells =
    let strategies = strategies_of (λ b. (goal.CompactionStrategy-dyn g (b.vtable, b.value)).may_choose b.value) (λ b. (goal.CompactionStrategy-dyn g (b.vtable, b.value)).may_refuse b.value) c.args.strategies.now in
    let world = g.S.Store.world in
    let old = c.args.tree.now in
    let new = c.compact.new.tree in
    subst (λ step. Acts strategies step c.compact.result (world old.store) (world new.store) (beside old c.args.slots.now) (beside new c.args.slots.now)) (sym c.in-Compact.is) (c.compact.ensures.acts tells)

-- ---- where the store is blamed

pub returns-in_ok-get-in-Get-clause-causes : goal.returns-in_ok-get-in-Get-clause-causes
returns-in_ok-get-in-Get-clause-causes g c = read_cause g.S.Store.world c.args.tree.now.store (run.Get c.in-Get.key c.in-Get.snapshot) c.in_ok-get-in-Get.field-0 c.into_reply.result _ c.into_reply.ensures c.in_ok-get-in-Get.ensures refl

pub returns-in-GetInternalEntry-clause-causes : goal.returns-in-GetInternalEntry-clause-causes
returns-in-GetInternalEntry-clause-causes g c = read_cause g.S.Store.world c.args.tree.now.store (run.GetInternalEntry c.in-GetInternalEntry.key c.in-GetInternalEntry.snapshot) c.get_internal_entry.result c.into_reply-in-GetInternalEntry.result _ c.into_reply-in-GetInternalEntry.ensures c.get_internal_entry.ensures refl

pub returns-in-ContainsKey-clause-causes : goal.returns-in-ContainsKey-clause-causes
returns-in-ContainsKey-clause-causes g c = read_cause g.S.Store.world c.args.tree.now.store (run.ContainsKey c.in-ContainsKey.key c.in-ContainsKey.snapshot) c.contains_key.result c.into_reply-in-ContainsKey.result _ c.into_reply-in-ContainsKey.ensures c.contains_key.ensures refl

pub returns-in-SizeOf-clause-causes : goal.returns-in-SizeOf-clause-causes
returns-in-SizeOf-clause-causes g c = read_cause g.S.Store.world c.args.tree.now.store (run.SizeOf c.in-SizeOf.key c.in-SizeOf.snapshot) c.size_of.result c.into_reply-in-SizeOf.result _ c.into_reply-in-SizeOf.ensures c.size_of.ensures refl

pub returns-in_ok-range-in-Range-clause-causes : goal.returns-in_ok-range-in-Range-clause-causes
returns-in_ok-range-in-Range-clause-causes g c = read_cause g.S.Store.world c.args.tree.now.store (run.Range c.in-Range.low c.in-Range.high c.in-Range.snapshot) c.in_ok-range-in-Range.field-0 c.into_reply-in-Range.result c.tree-in-Range.result.now.core c.into_reply-in-Range.ensures c.in_ok-range-in-Range.ensures refl

pub returns-in_ok-iter-in-Iter-clause-causes : goal.returns-in_ok-iter-in-Iter-clause-causes
returns-in_ok-iter-in-Iter-clause-causes g c = read_cause g.S.Store.world c.args.tree.now.store (run.Iter c.in-Iter.snapshot) c.in_ok-iter-in-Iter.field-0 c.into_reply-in-Iter.result c.tree-in-Iter.result.now.core c.into_reply-in-Iter.ensures c.in_ok-iter-in-Iter.ensures refl

pub returns-in_ok-prefix-in-Prefix-clause-causes : goal.returns-in_ok-prefix-in-Prefix-clause-causes
returns-in_ok-prefix-in-Prefix-clause-causes g c = read_cause g.S.Store.world c.args.tree.now.store (run.Prefix c.in-Prefix.prefix c.in-Prefix.snapshot) c.in_ok-prefix-in-Prefix.field-0 c.into_reply-in-Prefix.result c.tree-in-Prefix.result.now.core c.into_reply-in-Prefix.ensures c.in_ok-prefix-in-Prefix.ensures refl

pub returns-in-Len-clause-causes : goal.returns-in-Len-clause-causes
returns-in-Len-clause-causes g c = read_cause g.S.Store.world c.args.tree.now.store (run.Len c.in-Len.snapshot) c.len.result c.into_reply-in-Len.result _ c.into_reply-in-Len.ensures c.len.ensures refl

pub returns-in-IsEmpty-clause-causes : goal.returns-in-IsEmpty-clause-causes
returns-in-IsEmpty-clause-causes g c = read_cause g.S.Store.world c.args.tree.now.store (run.IsEmpty c.in-IsEmpty.snapshot) c.is_empty.result c.into_reply-in-IsEmpty.result _ c.into_reply-in-IsEmpty.ensures c.is_empty.ensures refl

pub returns-in-FirstKeyValue-clause-causes : goal.returns-in-FirstKeyValue-clause-causes
returns-in-FirstKeyValue-clause-causes g c = read_cause g.S.Store.world c.args.tree.now.store (run.FirstKeyValue c.in-FirstKeyValue.snapshot) c.first_key_value.result c.into_reply-in-FirstKeyValue.result _ c.into_reply-in-FirstKeyValue.ensures c.first_key_value.ensures refl

pub returns-in-LastKeyValue-clause-causes : goal.returns-in-LastKeyValue-clause-causes
returns-in-LastKeyValue-clause-causes g c = read_cause g.S.Store.world c.args.tree.now.store (run.LastKeyValue c.in-LastKeyValue.snapshot) c.last_key_value.result c.into_reply-in-LastKeyValue.result _ c.into_reply-in-LastKeyValue.ensures c.last_key_value.ensures refl

pub returns-in-Count-clause-causes : goal.returns-in-Count-clause-causes
returns-in-Count-clause-causes g c = read_cause g.S.Store.world c.args.tree.now.store (run.Count c.in-Count.what) c.count.result c.into_reply-in-Count.result _ c.into_reply-in-Count.ensures c.count.ensures refl

pub returns-in-IsCompacting-clause-causes : goal.returns-in-IsCompacting-clause-causes
returns-in-IsCompacting-clause-causes g c = read_cause g.S.Store.world c.args.tree.now.store run.IsCompacting c.is_compacting.result c.into_reply-in-IsCompacting.result _ c.into_reply-in-IsCompacting.ensures c.is_compacting.ensures refl

pub returns-in-TreeType-clause-causes : goal.returns-in-TreeType-clause-causes
returns-in-TreeType-clause-causes g c = read_cause g.S.Store.world c.args.tree.now.store run.TreeType c.tree_type.result c.into_reply-in-TreeType.result _ c.into_reply-in-TreeType.ensures c.tree_type.ensures refl

pub returns-in-RotateMemtable-clause-causes : goal.returns-in-RotateMemtable-clause-causes
returns-in-RotateMemtable-clause-causes g c = rotate_cause g.S.Store.world c.rotate.result c.args.tree.now c.rotate.new.tree c.rotate.ensures.takes

pub returns-in-SetMoment-clause-causes : goal.returns-in-SetMoment-clause-causes
returns-in-SetMoment-clause-causes g c = moment_cause g.S.Store.world _ c.set_moment.result c.args.tree.now c.set_moment.new.tree c.set_moment.ensures.takes

pub returns-in-GetNextTableId-clause-causes : goal.returns-in-GetNextTableId-clause-causes
returns-in-GetNextTableId-clause-causes g c = table_id_cause g.S.Store.world c.get_next_table_id.result c.args.tree.now c.get_next_table_id.new.tree c.get_next_table_id.ensures.takes

pub returns-in-IsUncertain-clause-causes : goal.returns-in-IsUncertain-clause-causes
returns-in-IsUncertain-clause-causes g c = truth_cause g.S.Store.world c.args.tree.now.store c.is_uncertain.result
