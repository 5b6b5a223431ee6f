use Rattle.std.proofs.Common.{ℕ, Bor}
use Rattle.lsm_model.specs.Steps.{among}
use Rattle.lsm_versions.proofs.hidden_set.HiddenSet.show.Goals as goal
use Rattle.lsm_versions.specs.TableLaws.{take_more_out}

pub loop-id-preserved : goal.loop-id-preserved
loop-id-preserved c = λ i. take_more_out (λ (x : Bor ℕ). x.now) c.loop-id.yielded c.in-Some.id i (among c.remove.new.self.keys i) (among c.loop-id.self-inside.ids.keys i) (among c.self.inside.ids.keys i) (c.remove.ensures.updates.0 i) (c.loop-id.invariant i)
