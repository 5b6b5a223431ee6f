use Rattle.std.proofs.Common.{◌≡◌, ◌-◌, ◌^◌, ◌<◌, drop}
use Rattle.lsm_below.specs.Heads.{head_from}
use Rattle.lsm_below.proofs.head.padded_head.Given as goal

abbrev pub invariant-loop-place : goal.invariant-loop-place
invariant-loop-place l = (l.head < 256 ^ l.place) × (head_from l.head (16 - l.place) (drop l.place l.key) ≡ head_from 0 16 l.key)
