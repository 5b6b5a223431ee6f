use Rattle.std.proofs.Common.{inl, inr, ap, Err}
use Rattle.lsm_below.specs.declared.error.Error.{Error}
use Rattle.lsm_dump_parts.proofs.verdict.judge_log.Goals as goal

pub returns-in-Ok-clause-read : goal.returns-in-Ok-clause-read
returns-in-Ok-clause-read g c tells = record {
  passed = c.in-Ok.log.passed.items;
  numbers = c.in-Ok.log.numbers.items;
  log = c.in-Ok.ensures.read tells;
}

pub returns-in-Err-clause-refused : goal.returns-in-Err-clause-refused
returns-in-Err-clause-refused g c tells =
    elim c.in-Err.ensures.only [
      | inl failed ↦ inl failed
      | inr bad ↦ inr (bad, c.in-Err.ensures.bad tells (ap (λ (e : Error). Err e) bad))
    ]
