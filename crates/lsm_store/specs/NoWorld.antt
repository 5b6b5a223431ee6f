-- A store of which nothing is known but its failures.
use Rattle.std.specs.Prelude.{ℕ, None}
use Rattle.lsm_store.specs.World.{World}

-- this many calls of it have failed
abbrev pub untold : ℕ → World
untold n = record {
  gives = λ name. None;
  may = λ name c. ⊥;
  moment = 0;
  since = λ t image. ⊥;
  failures = n;
}
