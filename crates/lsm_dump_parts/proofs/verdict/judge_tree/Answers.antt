use Rattle.std.proofs.Common.{sym}
use Rattle.lsm_dump_parts.proofs.verdict.judge_tree.Goals as goal

pub returns-in-Ok-clause-found : goal.returns-in-Ok-clause-found
returns-in-Ok-clause-found g c tells = record {
  files = c.in-Ok.found;
  found = (c.in-Ok.ensures.found tells).found;
  from_is = sym c.log_from.ensures;
}
