use Rattle.std.proofs.Common.{◌-◌, ◌+◌, ◌*◌, drop, sym, ap, ◌∙◌, arith}
use Rattle.lsm_below.specs.Heads.{head_from}
use Rattle.lsm_below.proofs.Heads.{head_step, head_all, head_room}
use Rattle.lsm_below.proofs.head.padded_head.Goals as goal

pub overflow_mul-head : goal.overflow_mul-head
overflow_mul-head c =
    let i = c.loop-place.invariant in
    let t = c.loop-place-test.true in
    let room = head_room c.loop-place.place c.loop-place.head 0 (omega arith) i.0 (omega arith) in
    omega (arith, room.1)

pub overflow_add-head : goal.overflow_add-head
overflow_add-head c =
    let i = c.loop-place.invariant in
    let t = c.loop-place-test.true in
    let room = head_room c.loop-place.place c.loop-place.head c.byte_at.result (omega arith) i.0 (omega (arith, c.byte_at.type_inv)) in
    omega (arith, room.1)

pub loop-place-preserved : goal.loop-place-preserved
loop-place-preserved c =
    let i = c.loop-place.invariant in
    let t = c.loop-place-test.true in
    let p = c.loop-place.place in
    let head = c.loop-place.head in
    let room = head_room p head c.byte_at.result (omega arith) i.0 (omega (arith, c.byte_at.type_inv)) in (
      room.0,
      ap (λ x. head_from (head * 256 + x) (16 - (p + 1)) (drop (p + 1) c.args.key.now)) c.byte_at.ensures ∙ (sym (head_step head p c.args.key.now (omega arith)) ∙ i.1),
    )

pub returns-clause-head : goal.returns-clause-head
returns-clause-head c = sym (head_all c.loop-place.head c.args.key.now c.loop-place.place (omega arith)) ∙ c.loop-place.invariant.1
