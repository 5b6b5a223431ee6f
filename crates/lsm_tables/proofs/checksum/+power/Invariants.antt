use Rattle.lsm_tables.proofs.checksum.+power.Given as goal

abbrev pub decreases-power : goal.decreases-power
decreases-power l = l.n
