use Rattle.lsm_state.proofs.tree.TreeState.register_tables.Goals as goal

pub returns-then-not-is_uncertain-clause-marks : goal.returns-then-not-is_uncertain-clause-marks
returns-then-not-is_uncertain-clause-marks g c = c.flushes_are_deeds.ensures.spends c.args.job.watermark c.args.job.job.number c.args.self.now.core c.facts.ensures
