use Rattle.std.proofs.Common.{◌≡◌, ◌<◌, length, take, Some, slice_get}
use Rattle.std.specs.List.{All, AllPairs}
use Rattle.lsm_recorded.specs.Ticks.{Finds}
use Rattle.lsm_recorded.proofs.closing.tick_pass.Given as goal

-- of the entries so far: they are the journal's, their places rise to below the next one, and all are ticked
abbrev pub invariant-loop-place : goal.invariant-loop-place
invariant-loop-place l = record {
  as-long : length l.ticked ≡ length l.journal;
  there : All (λ x. slice_get l.journal x.0 ≡ Some x.1) (take l.place-index l.pass);
  below : All (λ x. x.0 < l.next) (take l.place-index l.pass);
  rising : AllPairs (λ x y. x.0 < y.0) (take l.place-index l.pass);
  ticked : Finds (take l.place-index l.pass) l.initial.ticked l.ticked;
}
