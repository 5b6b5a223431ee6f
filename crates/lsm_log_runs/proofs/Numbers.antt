-- Acts whose batches are numbered below a number keep that all is; and tables that are have small numbers.
use Rattle.std.proofs.Common.{◌≡◌, ℕ, ◌+◌, ◌<◌, ◌≤◌, ◌^◌, List, [], ◌∷◌, ◌++◌, map, inl, inr, refl, sym, ap, subst}
use Rattle.std.specs.List.{AllByRecursion, flat_map}
use Rattle.lsm_below.specs.Each.{each_append, each_left, each_right}
use Rattle.lsm_below.specs.Entries.{Entry, above}
use Rattle.lsm_tables.specs.Tables.{SeenTable}
use Rattle.lsm_model.specs.Counted.{OfWrite}
use Rattle.lsm_model.specs.Journal.{Event}
use Rattle.lsm_model.specs.Steps.{State}
use Rattle.lsm_model.specs.Views.{Table, Placed, placed_at, placed_from, held}
use Rattle.lsm_model.specs.Beginnings.{told_lost}
use Rattle.lsm_model.specs.declared.journal.JournalEntry.TheVariants.{Write, Clear, Install, Dropped, Mark, Read}
use Rattle.lsm_model.proofs.Above.{below_each}
use Rattle.lsm_versions.specs.Levels.{Levels, shown_table, shown_levels, placed_of}
use Rattle.lsm_manifest.specs.Standing.{HasSmallNumbers}
use Rattle.lsm_log_model.specs.Logs.{Logged as Log, lost_of, Act, Batched, BatchLost, Did, CommitLost, Acts, AllActs}
use Rattle.lsm_log_model.specs.Numbered.{AreBelow}
use Rattle.lsm_log_model.specs.Records.{entries_of, entries_in}
use Rattle.lsm_log_model.proofs.Batches.{each_entry}
use Rattle.lsm_log_model.proofs.Growth.{HasNoWrite, tells, lost_tells_none}
use Rattle.lsm_log_model.proofs.Writes.{run_journal, deeds_run}

-- ---- acts

-- the batch of the act is numbered below this
abbrev pub IsBatchBelow : ℕ → Act → Type 0
IsBatchBelow n (Batched b) = b.number < n
IsBatchBelow n (BatchLost b) = b.number < n
IsBatchBelow n (Did action) = Unit {0}
IsBatchBelow n (CommitLost action would) = Unit {0}

module _ (n : ℕ) where
  abbrev Written : List Event → Type 0
  Written journal = AllByRecursion (OfWrite (λ e. e.key.seqno < n)) journal

  no_writes : (more : List Event) → HasNoWrite more → Written more
  no_writes [] h = tt
  no_writes (Write e ∷ more) h = absurd (h e (inl refl))
  no_writes (Clear m ∷ more) h = (tt, no_writes more (λ f i. h f (inr i)))
  no_writes (Install m ∷ more) h = (tt, no_writes more (λ f i. h f (inr i)))
  no_writes (Dropped ranges m ∷ more) h = (tt, no_writes more (λ f i. h f (inr i)))
  no_writes (Mark w ∷ more) h = (tt, no_writes more (λ f i. h f (inr i)))
  no_writes (Read at question answer ∷ more) h = (tt, no_writes more (λ f i. h f (inr i)))

  writes : (es : List Entry) → AllByRecursion (λ e. e.key.seqno < n) es → Written (map Write es)
  writes [] h = tt
  writes (e ∷ es) h = (h.0, writes es h.1)

  module _ (opened : List Entry) where
    abbrev Below : Log → Type 0
    Below t = AreBelow n opened t.tree.state.journal t.lost

    grown_below : (old new : Log) (more : List Event) → new.tree.state.journal ≡ old.tree.state.journal ++ more → Written more → new.lost ≡ old.lost → Below old → Below new
    grown_below old new more journal written lost below = record {
      before = below.before;
      written = subst Written (sym journal) (each_append _ old.tree.state.journal more below.written written);
      doubtful = subst (λ l. AllByRecursion (λ e. e.key.seqno < n) (entries_in (lost_of l))) (sym lost) below.doubtful;
    }

    act_below : (old : Log) (act : Act) (new : Log) → Acts opened old act new → IsBatchBelow n act → Below old → Below new
    act_below old (Batched b) new d small below =
        let run = deeds_run opened old.tree new.tree (entries_of b) d.writes in
        grown_below old new (map Write (entries_of b)) (run_journal opened old.tree.state new.tree.state (entries_of b) run.run) (writes (entries_of b) (each_entry (λ m. m < n) b small)) (ap (λ (t : Log). t.lost) d.rest) below
    act_below old (BatchLost b) new d small below =
        let doubt = each_append (λ (e : Entry). e.key.seqno < n) (entries_of b) [] (each_entry (λ m. m < n) b small) tt in
        subst Below (sym d.rest) (record { before = below.before; written = below.written; doubtful = doubt })
    act_below old (Did action) new d small below =
        let told = tells opened old.tree.state action new.tree.state d.silent d.done.step in
        grown_below old new told.0 told.1 (no_writes told.0 told.2) (ap (λ (t : Log). t.lost) d.rest) below
    act_below old (CommitLost action would) new d small below =
        let told = told_lost old.tree.state action would in
        grown_below old new told (ap (λ (t : State). t.journal) d.lost.state) (no_writes told (lost_tells_none old.tree.state action would)) (ap (λ (t : Log). t.lost) d.rest) below

    pub acts_below : (old : Log) (acts : List Act) (new : Log) → AllActs opened old acts new → AllByRecursion (IsBatchBelow n) acts → Below old → Below new
    acts_below old [] new d small below = subst Below (sym d) below
    acts_below old (act ∷ acts) new d small below = acts_below d.0 acts new d.2 small.1 (act_below old act d.0 d.1 small.0 below)

-- ---- tables

abbrev Low : Entry → Type 0
Low e = e.key.seqno < 2 ^ 63

run_low : (level : ℕ) (run : List SeenTable) (rest : List Table) → AllByRecursion Low (held (map (placed_at level) (map shown_table run ++ rest))) → AllByRecursion (λ u. AllByRecursion Low u.entries) run × AllByRecursion Low (held (map (placed_at level) rest))
run_low level [] rest h = (tt, h)
run_low level (u ∷ run) rest h =
    let more = run_low level run rest (each_right Low u.entries (held (map (placed_at level) (map shown_table run ++ rest))) h) in
    ((each_left Low u.entries (held (map (placed_at level) (map shown_table run ++ rest))) h, more.0), more.1)

runs_low : (level : ℕ) (runs : List (List SeenTable)) → AllByRecursion Low (held (map (placed_at level) (flat_map (λ r. r) (map (λ run. map shown_table run) runs)))) → AllByRecursion (λ r. AllByRecursion (λ u. AllByRecursion Low u.entries) r) runs
runs_low level [] h = tt
runs_low level (run ∷ runs) h = let more = run_low level run (flat_map (λ r. r) (map (λ run. map shown_table run) runs)) h in (more.0, runs_low level runs more.1)

both_low : (these others : List Placed) → AllByRecursion Low (held (these ++ others)) → AllByRecursion Low (held these) × AllByRecursion Low (held others)
both_low [] others h = (tt, h)
both_low (p ∷ these) others h =
    let more = both_low these others (each_right Low p.table.entries (held (these ++ others)) h) in
    (each_append Low p.table.entries (held these) (each_left Low p.table.entries (held (these ++ others)) h) more.0, more.1)

levels_low : (level : ℕ) (levels : Levels) → AllByRecursion Low (held (placed_from level (shown_levels levels))) → HasSmallNumbers levels
levels_low level [] h = tt
levels_low level (runs ∷ levels) h =
    let both = both_low (map (placed_at level) (flat_map (λ r. r) (map (λ run. map shown_table run) runs))) (placed_from (level + 1) (shown_levels levels)) h in
    (runs_low level runs both.0, levels_low (level + 1) levels both.1)

pub small_levels : (levels : Levels) → above (held (placed_of levels)) ≤ 2 ^ 63 → HasSmallNumbers levels
small_levels levels low = levels_low 0 levels (below_each (2 ^ 63) (held (placed_of levels)) low)
