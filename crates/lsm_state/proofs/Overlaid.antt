-- What is shown under an index is the view with the index laid over it.
use Rattle.std.proofs.Common.{◌≡◌, ℕ, List, [], ◌∷◌, ◌++◌, true, false, cond, map, Some, None, subst, sym, ap, ◌∙◌, append-nil, eqb}
use Rattle.std.specs.List.{AllByRecursion}
use Rattle.lsm_below.specs.Entries.{Entry, entry_cmp}
use Rattle.lsm_below.specs.Sorted.{Rises}
use Rattle.lsm_tables.specs.Cutting.{IsWritable}
use Rattle.lsm_model.specs.Views.{sources, found_at, Placed, SuperVersion}
use Rattle.lsm_model.specs.Laws.{PartsAreWhole}
use Rattle.lsm_memtable.specs.Memtables.{SeenMemtable}
use Rattle.lsm_parts.specs.declared.version.super_version.SuperVersion.{SuperVersion as Named}
use Rattle.lsm_parts.specs.History.{AreLaid}
use Rattle.lsm_iter.specs.Shown.{ShowsOf, lies_within, begins_with}
use Rattle.lsm_iter.specs.Answers.{ShownIsView, ShownIsOverlaid, overlaid, pairs_of}
use Rattle.lsm_iter.specs.Reads.{SeenState}
use Rattle.lsm_parts.specs.Held.{entries_of}
use Rattle.lsm_state.specs.Core.{Core, shown_as, latest_of, older_of}
use Rattle.lsm_state.specs.Kept.{IsKeptTree}
use Rattle.lsm_state.specs.Ranges.{index_entries, counting, CountingIsOverlaid, RangesAreOverlaid, PrefixesAreOverlaid}
use Rattle.lsm_state.proofs.Answered.{counts, of_found}

-- the laws of lists that are shown
pub record Laws : Type 0 where
  pub parts : PartsAreWhole
  pub view : ShownIsView
  pub over : ShownIsOverlaid

pub is_overlaid : Laws → CountingIsOverlaid
is_overlaid laws memtables None s sv m test out at_key once on_top h =
    laws.view s (sources (entries_of memtables) sv) m test out at_key once (subst (λ es. ShowsOf test es out) (counts laws.parts (entries_of memtables) s sv) h)
is_overlaid laws memtables (Some p) s sv m test out at_key once on_top h =
    let mems = entries_of memtables in
    let st : SeenState = record { overlay = Some (record { entries = p.0.now.entries; below = p.1 }); memtables = map mems (sv.active ∷ sv.sealed); tables = map (λ t. t.table.entries) sv.tables } in
    let shown = subst (λ es. ShowsOf test (index_entries (Some p) ++ es) out) (counts laws.parts mems s sv) h in
    laws.over s st m test out at_key once on_top shown ∙ ap (λ l. pairs_of test (overlaid l m)) (append-nil (index_entries (Some p)))

-- ---- each source of a tree is in order

memtable_rises : (ts : List SeenMemtable) (i : ℕ) → AllByRecursion (λ t. IsWritable t.entries) ts → Rises entry_cmp (entries_of ts i)
memtable_rises [] i h = tt
memtable_rises (t ∷ ts) i h = elim (eqb i t.id) as (λ b. Rises entry_cmp (cond b t.entries (entries_of ts i))) [ true ↦ h.0.rises | false ↦ memtable_rises ts i h.1 ]

memtables_rise : (ts : List SeenMemtable) (ids : List ℕ) → AllByRecursion (λ t. IsWritable t.entries) ts → AllByRecursion (Rises entry_cmp) (map (entries_of ts) ids)
memtables_rise ts [] h = tt
memtables_rise ts (i ∷ ids) h = (memtable_rises ts i h, memtables_rise ts ids h)

tables_rise : (tables : List Placed) → AllByRecursion (λ p. Rises entry_cmp p.table.entries) tables → AllByRecursion (Rises entry_cmp) (map (λ p. p.table.entries) tables)
tables_rise [] h = tt
tables_rise (p ∷ tables) h = (h.0, tables_rise tables h.1)

both_rise : (xs ys : List (List Entry)) → AllByRecursion (Rises entry_cmp) xs → AllByRecursion (Rises entry_cmp) ys → AllByRecursion (Rises entry_cmp) (xs ++ ys)
both_rise [] ys h g = g
both_rise (x ∷ xs) ys h g = (h.0, both_rise xs ys h.1 g)

laid_rise : (versions : List Named) → AreLaid versions → AllByRecursion (λ v. AllByRecursion (λ p. Rises entry_cmp p.table.entries) v.tables) (map shown_as versions)
laid_rise [] h = tt
laid_rise (sv ∷ versions) h = (h.0.rise, laid_rise versions h.1)

sources_rise : PartsAreWhole → (c : Core) (s : ℕ) (sv : SuperVersion) → IsKeptTree c → found_at s (latest_of c) (older_of c) ≡ Some sv → AllByRecursion (Rises entry_cmp) (sources (entries_of c.memtables) sv)
sources_rise parts c s sv kept found =
    let laid = laid_rise (c.history.latest ∷ c.history.older) kept.laid in
    both_rise (map (entries_of c.memtables) (sv.active ∷ sv.sealed)) (map (λ p. p.table.entries) sv.tables)
    (memtables_rise c.memtables (sv.active ∷ sv.sealed) kept.writable)
    (tables_rise sv.tables (of_found parts (λ v. AllByRecursion (λ p. Rises entry_cmp p.table.entries) v.tables) s c sv found laid))

some_same : (a b : SuperVersion) → Some a ≡ Some b → a ≡ b
some_same a b e = cc e

pub ranges_overlaid : Laws → RangesAreOverlaid
ranges_overlaid laws c index low high s sv out kept found h m at_key apart on_top =
    let same : h.0 ≡ sv = some_same h.0 sv (sym h.1 ∙ found) in
    is_overlaid laws c.memtables index s sv m (lies_within low high) out at_key (record { rise = sources_rise laws.parts c s sv kept found; apart = apart }) on_top
    (subst (λ v. ShowsOf (lies_within low high) (counting c.memtables index s v) out) same h.2)

pub prefixes_overlaid : Laws → PrefixesAreOverlaid
prefixes_overlaid laws c index prefix s sv out kept found h m at_key apart on_top =
    let same : h.0 ≡ sv = some_same h.0 sv (sym h.1 ∙ found) in
    is_overlaid laws c.memtables index s sv m (begins_with prefix) out at_key (record { rise = sources_rise laws.parts c s sv kept found; apart = apart }) on_top
    (subst (λ v. ShowsOf (begins_with prefix) (counting c.memtables index s v) out) same h.2)
