use Rattle.std.proofs.Common.{◌≡◌, true, Ok, ap, sym, ◌∙◌, arith}
use Rattle.std.proofs.lemmas.List.Folds.{list_all_more}
use Rattle.lsm_recorded.specs.Marks.{mark_of, op_allowed, next_mark, op_type}
use Rattle.lsm_recorded.proofs.BatchLemmas.{both_true}
use Rattle.lsm_recorded.proofs.RaisingLemmas.{not_all, not_short, restored_same, restored_more, there_kept, there_more, keys_more, marked_more, apart_more, allowed_before, stopped}
use Rattle.lsm_recorded.proofs.raising.raise_all.Goals as goal

pub returns-in_err-raise-clause-raised : goal.returns-in_err-raise-clause-raised
returns-in_err-raise-clause-raised c q =
    let r = c.raise.ensures in
    let refused = not_short c.raise.result _ c.in_err-raise.was in
    rw (r.unraised refused) (restored_same c.loop-key.raised.items (mark_of c.raise.new.marks) (mark_of c.loop-key.marks) (r.unmarked refused) q ∙ c.loop-key.invariant.raised q)

pub returns-in_err-raise-clause-there : goal.returns-in_err-raise-clause-there
returns-in_err-raise-clause-there c =
    let r = c.raise.ensures in
    let refused = not_short c.raise.result _ c.in_err-raise.was in
    rw (r.unraised refused) (there_kept c.loop-key.marks c.raise.new.marks c.loop-key.raised.items r.kept c.loop-key.invariant.there)

pub returns-then-not-branch-clause-twice : goal.returns-then-not-branch-clause-twice
returns-then-not-branch-clause-twice c is small all =
    let op = c.loop-key-item.result in
    stopped c.args.number c.args.ops.now c.loop-key.key-index op c.loop-key-test.true c.loop-key-item.is c.args.floor (mark_of c.args.marks.now) (mark_of c.loop-key.marks) (c.loop-key.invariant.apart op.0)
    (sym c.in_ok-raise.ensures.allowed ∙ c.if-not-branch.true) all

pub returns-then-not-branch-clause-raised : goal.returns-then-not-branch-clause-raised
returns-then-not-branch-clause-raised c q =
    let r = c.raise.ensures in
    let refused = not_all c.raise.result _ c.in_ok-raise.was c.if-not-branch.true in
    rw (r.unraised refused) (restored_same c.loop-key.raised.items (mark_of c.raise.new.marks) (mark_of c.loop-key.marks) (r.unmarked refused) q ∙ c.loop-key.invariant.raised q)

pub returns-then-not-branch-clause-there : goal.returns-then-not-branch-clause-there
returns-then-not-branch-clause-there c =
    let r = c.raise.ensures in
    let refused = not_all c.raise.result _ c.in_ok-raise.was c.if-not-branch.true in
    rw (r.unraised refused) (there_kept c.loop-key.marks c.raise.new.marks c.loop-key.raised.items r.kept c.loop-key.invariant.there)

pub loop-key-preserved : goal.loop-key-preserved
loop-key-preserved c =
    let r = c.raise.ensures in
    let i = c.loop-key.invariant in
    let n = c.args.number in
    let ops = c.args.ops.now in
    let at = c.loop-key.key-index in
    let op = c.loop-key-item.result in
    let lt = c.loop-key-test.true in
    let old = mark_of c.args.marks.now in
    let now = mark_of c.loop-key.marks in
    let new = mark_of c.raise.new.marks in
    let allows = op_allowed old c.args.floor n in
    let raised : c.raise.result ≡ Ok true = c.in_ok-raise.was ∙ ap Ok c.if-not-branch.false in
    let allowed = allowed_before n c.args.floor _ op old now (i.apart op.0) (sym c.in_ok-raise.ensures.allowed ∙ c.if-not-branch.false) in
    record {
      room = omega (arith, i.room, r.len, r.capacity);
      allowed = list_all_more allows ops at op lt ∙ both_true _ _ i.allowed (ap allows (sym c.loop-key-item.is) ∙ allowed);
      marks = marked_more n ops at op lt c.loop-key-item.is old now new i.marks (r.marks raised);
      apart = apart_more n _ _ op.0 (op_type op.1) old now new (keys_more n ops at op lt c.loop-key-item.is) i.apart (r.marks raised);
      raised = restored_more c.loop-key.raised.items c.raise.new.raised.items old now new op.0 (next_mark (now op.0) n (op_type op.1)) (r.raised raised) (r.marks raised) i.raised;
      there = there_more c.raise.new.marks c.loop-key.raised.items c.raise.new.raised.items (op.0, now op.0) (r.raised raised) (there_kept c.loop-key.marks c.raise.new.marks c.loop-key.raised.items r.kept i.there) (r.there raised);
    }
