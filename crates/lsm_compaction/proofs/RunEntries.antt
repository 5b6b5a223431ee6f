-- The entries of runs, as sources of a merge.
use Rattle.std.proofs.Common.{◌≡◌, ℕ, true, List, [], ◌∷◌, map, refl, ap}
use Rattle.std.specs.List.{AllByRecursion}
use Rattle.std.specs.Ordering.{nat_cmp, is_le, ordering_then}
use Rattle.std.specs.declared.cmp.Ordering.TheVariants.{Less}
use Rattle.std.proofs.lemmas.Bool.{and_parts}
use Rattle.lsm_below.specs.Each.{each_append, each_weaker, each_filter}
use Rattle.lsm_below.specs.Entries.{Entry, entry_cmp}
use Rattle.lsm_below.specs.KeptLaws.{ascends}
use Rattle.lsm_below.specs.Keys.{Bytes, bytes_cmp, is_below}
use Rattle.lsm_below.specs.Ranges.{in_range}
use Rattle.lsm_below.specs.Runs.{IsRun}
use Rattle.lsm_below.specs.Sorted.{Rises}
use Rattle.lsm_below.specs.Streams.{Rest, IsInOrder}
use Rattle.lsm_below.specs.Orders.{below_less, le_less, less_le}
use Rattle.lsm_below.proofs.Rising.{rises_append}
use Rattle.lsm_tables.specs.Cutting.{IsWritable}
use Rattle.lsm_tables.specs.Image.{IsTable, Fits}
use Rattle.lsm_tables.specs.Tables.{SeenTable}
use Rattle.lsm_model.specs.Steps.{among}
use Rattle.lsm_versions.specs.Levels.{Levels, range, AreCovered, AreRising, all_of, chosen_from}
use Rattle.lsm_compaction.specs.Merges.{run_entries, sources_in, IsSoundRun}

-- ---- tables of a run

-- the entry of a lower key stands first
lower_key : (e f : Entry) → bytes_cmp e.key.user_key f.key.user_key ≡ Less → entry_cmp e f ≡ Less
lower_key e f h = ap (λ r. ordering_then r (nat_cmp f.key.seqno e.key.seqno)) h

abbrev AreBehind : Entry → List Entry → Type 0
AreBehind e fs = AllByRecursion (λ f. entry_cmp e f ≡ Less) fs

-- what comes after the greatest key of a range comes after all keys in it
all_later : (e : Entry) (max : Bytes) → is_le (bytes_cmp e.key.user_key max) ≡ true → (ts : List SeenTable) → AllByRecursion (λ t. is_below max (range t).min ≡ true) ts → AreCovered ts → AreBehind e (run_entries ts)
all_later e max le [] below covered = tt
all_later e max le (t ∷ ts) below covered =
    let first : bytes_cmp e.key.user_key (range t).min ≡ Less = le_less e.key.user_key max (range t).min le (below_less max (range t).min below.0) in
    each_append (λ f. entry_cmp e f ≡ Less) t.entries (run_entries ts)
    (each_weaker (λ f. in_range f.key.user_key (range t) ≡ true) (λ f. entry_cmp e f ≡ Less)
    (λ f inside. lower_key e f (less_le e.key.user_key (range t).min f.key.user_key first (and_parts (is_le (bytes_cmp (range t).min f.key.user_key)) (is_le (bytes_cmp f.key.user_key (range t).max)) inside).0)) t.entries covered.0)
    (all_later e max le ts below.1 covered.1)

run_rises : (ts : List SeenTable) → IsRun range ts → AllByRecursion (λ t. IsTable t.entries) ts → AreCovered ts → Rises entry_cmp (run_entries ts)
run_rises [] run tables covered = tt
run_rises (t ∷ ts) run tables covered =
    rises_append entry_cmp t.entries (run_entries ts) tables.0.rises (run_rises ts run.2 tables.1 covered.1)
    (each_weaker (λ e. in_range e.key.user_key (range t) ≡ true) (λ e. AreBehind e (run_entries ts))
    (λ e inside. all_later e (range t).max (and_parts (is_le (bytes_cmp (range t).min e.key.user_key)) (is_le (bytes_cmp e.key.user_key (range t).max)) inside).1 ts run.1 covered.1) t.entries covered.0)

run_fits : (ts : List SeenTable) → AllByRecursion (λ t. IsTable t.entries) ts → AllByRecursion Fits (run_entries ts)
run_fits [] h = tt
run_fits (t ∷ ts) h = each_append Fits t.entries (run_entries ts) h.0.each (run_fits ts h.1)

-- ---- runs

pub runs_writable : (runs : List (List SeenTable)) → AllByRecursion IsSoundRun runs → AllByRecursion IsWritable (sources_in runs)
runs_writable [] h = tt
runs_writable (run ∷ runs) h = (record { each = run_fits run h.0.tables; rises = run_rises run h.0.sorted h.0.tables h.0.covered }, runs_writable runs h.1)

pub runs_in_order : (lists : List (List Entry)) → AllByRecursion IsWritable lists → AllByRecursion IsInOrder lists
runs_in_order [] h = tt
runs_in_order (l ∷ lists) h = (ascends l h.0.rises, runs_in_order lists h.1)

-- the entries of chosen tables of a version
tables_in_order : (ts : List SeenTable) → AreRising ts → AllByRecursion IsInOrder (map (λ t. t.entries) ts)
tables_in_order [] h = tt
tables_in_order (t ∷ ts) h = (ascends t.entries h.0, tables_in_order ts h.1)

pub chosen_in_order : (ids : List ℕ) (levels : Levels) → AreRising (all_of levels) → AllByRecursion IsInOrder (map (λ t. t.entries) (chosen_from ids levels))
chosen_in_order ids levels rising = tables_in_order (chosen_from ids levels) (each_filter (λ (t : SeenTable). Rises entry_cmp t.entries) (λ t. among ids t.id) (all_of levels) rising)

-- ---- sources

pub each_itself : (rests : List Rest) → map (λ s. s) rests ≡ rests
each_itself [] = refl
each_itself (s ∷ rests) = ap (λ l. s ∷ l) (each_itself rests)
