use Rattle.std.proofs.Common.{[], List, ℕ, get_or, refl, subst, arith}
use Rattle.std.specs.Borrow.{Bor}
use Rattle.lsm_store.specs.declared.mem_store.picks.Pick.{Pick}
use Rattle.lsm_store.specs.declared.mem_store.picks.Pick.TheVariants.{Absent}
use Rattle.lsm_store.specs.Held.{MayHold}
use Rattle.lsm_store.specs.Files.{held_at}
use Rattle.lsm_store.specs.Picks.{left_at}
use Rattle.lsm_store.proofs.HeldPicks.{image_of_names, names_more}
use Rattle.lsm_store.proofs.mem_store.picks.are_possible.Goals as goal

pub loop-name-preserved : goal.loop-name-preserved
loop-name-preserved c =
    let files = c.args.files.now in
    let picks = c.args.picks.now in
    let e : Bor (List ℕ) × Pick = (record { ref_ptr = (0, 0); now = [] }, Absent) in
    let n : List ℕ = (get_or picks c.loop-name.name-index e).0.now in
    names_more files picks c.loop-name.name-index c.loop-name-test.true c.loop-name.invariant e
    (subst (λ q. MayHold (held_at files n) (left_at (held_at files n) q)) c.pick_for.ensures (c.may_leave.ensures.0 c.if-not-may_leave.false))

pub returns : goal.returns
returns c = ((λ _. image_of_names c.args.files.now c.args.picks.now (λ k d lt. c.loop-name.invariant k d (let e = c.loop-name-test.false in omega (arith, e, lt)))), (λ _. refl))
