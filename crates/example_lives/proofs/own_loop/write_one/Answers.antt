use Rattle.lsm_log_runs.proofs.Causing.{write_cause}
use Rattle.example_lives.proofs.own_loop.write_one.Goals as goal

pub returns-in-Err-clause-acts : goal.returns-in-Err-clause-acts
returns-in-Err-clause-acts c = c.in-Err.ensures.acts tt

pub returns-in-Err-clause-cause : goal.returns-in-Err-clause-cause
returns-in-Err-clause-cause c = write_cause _ _ c.args.tree.now c.write.new.self _ _ c.in-Err.ensures.writes c.in-Err.ensures.counts
