use Rattle.std.proofs.Common.{take}
use Rattle.std.specs.List.{All}
use Rattle.lsm_recorded.specs.Closing.{IsPassOf}
use Rattle.lsm_recorded.specs.Ticks.{FindsAll}
use Rattle.lsm_recorded.proofs.closing.tick_passes.Given as goal

-- of the passes so far: they are the journal's, and their places are ticked
abbrev pub invariant-loop-pass : goal.invariant-loop-pass
invariant-loop-pass l = record {
  each : All (IsPassOf l.journal) (take l.pass-index l.passes);
  ticked : FindsAll (take l.pass-index l.passes) l.initial.ticked l.ticked;
}
