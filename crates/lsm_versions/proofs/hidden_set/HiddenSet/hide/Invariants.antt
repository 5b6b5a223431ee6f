use Rattle.std.proofs.Common.{◌≡◌, ℕ, ◌+◌, ◌≤◌, ◌||◌, length, map}
use Rattle.std.specs.HashSet.{spare}
use Rattle.lsm_model.specs.Steps.{among}
use Rattle.lsm_versions.proofs.hidden_set.HiddenSet.hide.Given as goal

abbrev pub invariant-loop-id : goal.invariant-loop-id
invariant-loop-id l = record {
  hidden : (i : ℕ) → among l.self-inside.ids.keys i ≡ (among l.initial.self-inside.ids.keys i || among (map (λ x. x.now) l.yielded) i);
  room : length l.ids.keys ≤ spare l.self-inside.ids + length l.yielded;
}
