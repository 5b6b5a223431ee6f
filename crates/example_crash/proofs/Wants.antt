-- What is found below 2^63 is refused only for want of memory, or where a call of the store failed.
use Rattle.std.proofs.Common.{ℕ, ◌+◌, ◌-◌, ◌<◌, ◌≤◌, ◌^◌, min, arith, List, [], ◌∷◌, ◌++◌, Err, map, refl}
use Rattle.std.specs.List.{AllByRecursion, flat_map}
use Rattle.lsm_runs.specs.Each.{each_append, each_left, each_right}
use Rattle.lsm_runs.specs.Entries.{Entry, above}
use Rattle.lsm_runs.specs.Error.{Error}
use Rattle.lsm_runs.specs.Error.TheVariants.{OutOfMemory, Store, CommitUnknown, OutOfNumbers}
use Rattle.lsm_runs.specs.Memory.{MemStore, world_of}
use Rattle.lsm_runs.specs.Tables.{SeenTable}
use Rattle.lsm_runs.specs.Views.{Table, Placed, placed_at, placed_from, held}
use Rattle.lsm_runs.specs.Levels.{Levels, shown_table, shown_levels, placed_of}
use Rattle.lsm_runs.specs.Finding.{Finds, RefusesFound}
use Rattle.lsm_runs.specs.Standing.{HasSmallNumbers}
use Rattle.lsm_manifest.specs.declared.opening.Opened.{Opened}
use Rattle.lsm_manifest.specs.Recovery.{CountsStore}
use Rattle.lsm_manifest.specs.Told.{Told, TellsOpen, told_counts}
use Rattle.example_crash.specs.Survival.{IsWant}

abbrev Low : Entry → Type 0
Low e = e.key.seqno < 2 ^ 63

each_low : (es : List Entry) → above es ≤ 2 ^ 63 → AllByRecursion Low es
each_low [] h = tt
each_low (e ∷ es) h = (omega (arith, h), each_low es (omega (arith, h)))

run_low : (level : ℕ) (run : List SeenTable) (rest : List Table) → AllByRecursion Low (held (map (placed_at level) (map shown_table run ++ rest))) → AllByRecursion (λ u. AllByRecursion Low u.entries) run × AllByRecursion Low (held (map (placed_at level) rest))
run_low level [] rest h = (tt, h)
run_low level (u ∷ run) rest h =
    let more = run_low level run rest (each_right Low u.entries (held (map (placed_at level) (map shown_table run ++ rest))) h) in
    ((each_left Low u.entries (held (map (placed_at level) (map shown_table run ++ rest))) h, more.0), more.1)

runs_low : (level : ℕ) (runs : List (List SeenTable)) → AllByRecursion Low (held (map (placed_at level) (flat_map (λ r. r) (map (λ run. map shown_table run) runs)))) → AllByRecursion (λ r. AllByRecursion (λ u. AllByRecursion Low u.entries) r) runs
runs_low level [] h = tt
runs_low level (run ∷ runs) h = let more = run_low level run (flat_map (λ r. r) (map (λ run. map shown_table run) runs)) h in (more.0, runs_low level runs more.1)

both_low : (these others : List Placed) → AllByRecursion Low (held (these ++ others)) → AllByRecursion Low (held these) × AllByRecursion Low (held others)
both_low [] others h = (tt, h)
both_low (p ∷ these) others h =
    let more = both_low these others (each_right Low p.table.entries (held (these ++ others)) h) in
    (each_append Low p.table.entries (held these) (each_left Low p.table.entries (held (these ++ others)) h) more.0, more.1)

levels_low : (level : ℕ) (levels : Levels) → AllByRecursion Low (held (placed_from level (shown_levels levels))) → HasSmallNumbers levels
levels_low level [] h = tt
levels_low level (runs ∷ levels) h =
    let both = both_low (map (placed_at level) (flat_map (λ r. r) (map (λ run. map shown_table run) runs))) (placed_from (level + 1) (shown_levels levels)) h in
    (runs_low level runs both.0, levels_low (level + 1) levels both.1)

pub wants : (was is : MemStore) (e : Error) → ((levels : Levels) → Finds (world_of was).gives levels → above (held (placed_of levels)) ≤ 2 ^ 63) → RefusesFound (world_of was).gives e → Told TellsOpen (CountsStore {T = Opened} (world_of was) (world_of is)) (Err e) → IsWant e is.failures
wants was is OutOfMemory low refuses told = tt
wants was is Store low refuses told = let more = (told_counts {T = Opened} (world_of was) (world_of is) (Err Store) told).store refl in omega (arith, more)
wants was is CommitUnknown low refuses told = let more = (told_counts {T = Opened} (world_of was) (world_of is) (Err CommitUnknown) told).unknown refl in omega (arith, more)
wants was is OutOfNumbers low refuses told = absurd (refuses.2 (levels_low 0 refuses.0 (each_low (held (placed_of refuses.0)) (low refuses.0 refuses.1))))
wants was is e low refuses told = absurd refuses
