use Rattle.lsm_below.proofs.Bridge.{stacks_merge}
use Rattle.lsm_below.proofs.Keeping.{takes_firsts}
use Rattle.lsm_below.proofs.Merging.{merges_merged}
use Rattle.lsm_below.proofs.laws.merges_by_key.Goals as goal

pub returns : goal.returns
returns c = record { merges = merges_merged; stacks = stacks_merge; firsts = takes_firsts }
