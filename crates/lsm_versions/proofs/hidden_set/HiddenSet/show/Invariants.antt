use Rattle.std.proofs.Common.{◌≡◌, ℕ, ◌&&◌, not, map}
use Rattle.lsm_model.specs.Steps.{among}
use Rattle.lsm_versions.proofs.hidden_set.HiddenSet.show.Given as goal

abbrev pub invariant-loop-id : goal.invariant-loop-id
invariant-loop-id l = (i : ℕ) → among l.self-inside.ids.keys i ≡ (among l.initial.self-inside.ids.keys i && not (among (map (λ x. x.now) l.yielded) i))
