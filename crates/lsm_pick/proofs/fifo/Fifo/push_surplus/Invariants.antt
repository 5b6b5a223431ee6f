use Rattle.std.proofs.Common.{◌≡◌, ℕ, ◌+◌, ◌*◌, ◌-◌, ◌^◌, ◌≤◌, ◌||◌, [], length, map, take, drop}
use Rattle.lsm_model.specs.Steps.{among}
use Rattle.lsm_pick.specs.Tables.{bytes_below}
use Rattle.lsm_pick.specs.Fifo.{fresh, surplus, bytes_at}
use Rattle.lsm_pick.proofs.fifo.Fifo.push_surplus.Given as goal

abbrev pub invariant-loop-table : goal.invariant-loop-table
invariant-loop-table l =
    ((k : ℕ) → (among l.ids.keys k || among (map (λ t. t.id) (surplus l.over (fresh l.self (take l.table-index l.run)) (fresh l.self (drop l.table-index l.run)))) k)
    ≡ (among l.initial.ids.keys k || among (map (λ t. t.id) (surplus l.over [] (fresh l.self l.run))) k))
    × (l.older ≡ bytes_below l.turn (fresh l.self l.run) + bytes_at l.turn (fresh l.self (take l.table-index l.run)))
    × (l.older ≤ length l.run * (2 ^ 64 - 1) + l.table-index * (2 ^ 64 - 1))
