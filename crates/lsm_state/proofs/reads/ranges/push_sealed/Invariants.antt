use Rattle.std.proofs.Common.{◌≡◌, ◌++◌, List, [], flat_map, reverse, length}
use Rattle.lsm_below.specs.Entries.{Entry}
use Rattle.lsm_parts.specs.Held.{entries_of}
use Rattle.lsm_state.proofs.reads.ranges.push_sealed.Given as goal

-- what is listed, and what is left to list, are all
abbrev pub invariant-loop-id : goal.invariant-loop-id
invariant-loop-id l = (f : List Entry → List Entry) → f [] ≡ []
    → flat_map (λ m. f m.now.entries) l.list.items ++ flat_map (λ i. f (entries_of l.memtables i)) (reverse l.rest) ≡ flat_map (λ m. f m.now.entries) l.initial.list.items ++ flat_map (λ i. f (entries_of l.memtables i)) (reverse l.fn.sealed)

abbrev pub decreases-loop-id : goal.decreases-loop-id
decreases-loop-id l = length l.rest
