use Rattle.std.proofs.Common.{refl, sym, subst}
use Rattle.lsm_commit.specs.Causes.{Blames, no_fault}
use Rattle.lsm_journal.proofs.compaction.beginning.begin_chosen.Goals as goal

pub returns-in-Err-clause-files : goal.returns-in-Err-clause-files
returns-in-Err-clause-files g c blameless = record {
  causes = no_fault _ _ _ refl (λ blamed. blameless (subst Blames (sym c.in-Err.is) blamed));
  gone = λ tells done. absurd (cc done);
  rests = tt;
  no_call = λ lost. refl;
}
