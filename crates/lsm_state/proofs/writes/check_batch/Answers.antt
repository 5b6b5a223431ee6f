use Rattle.std.proofs.Common.{inl, sym, ◌∙◌}
use Rattle.lsm_state.proofs.Refusals.{long_key, long_value, doubled, accepted}
use Rattle.lsm_state.proofs.writes.check_batch.Goals as goal

pub returns-then-has_long_key-clause-err : goal.returns-then-has_long_key-clause-err
returns-then-has_long_key-clause-err c = inl (long_key c.args.number c.args.ops.now c.if-number-ge-LIMIT.false (sym c.has_long_key.ensures ∙ c.if-has_long_key.true))

pub returns-then-has_long_value-clause-err : goal.returns-then-has_long_value-clause-err
returns-then-has_long_value-clause-err c =
    inl (long_value c.args.number c.args.ops.now c.if-number-ge-LIMIT.false (sym c.has_long_key.ensures ∙ c.if-has_long_key.false) (sym c.has_long_value.ensures ∙ c.if-has_long_value.true))

pub returns-then-branch-clause-err : goal.returns-then-branch-clause-err
returns-then-branch-clause-err c =
    inl (doubled c.args.number c.args.ops.now c.if-number-ge-LIMIT.false (sym c.has_long_key.ensures ∙ c.if-has_long_key.false) (sym c.has_long_value.ensures ∙ c.if-has_long_value.false) (sym c.in_ok-has_repeats.ensures ∙ c.if-branch.true))

pub returns-clause-ok : goal.returns-clause-ok
returns-clause-ok c =
    accepted c.args.number c.args.ops.now c.if-number-ge-LIMIT.false (sym c.has_long_key.ensures ∙ c.if-has_long_key.false) (sym c.has_long_value.ensures ∙ c.if-has_long_value.false) (sym c.in_ok-has_repeats.ensures ∙ c.if-branch.false)
