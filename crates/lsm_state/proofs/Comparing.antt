-- The entries of memtables that are compared, and the tables of a version that a flush makes.
use Rattle.std.proofs.Common.{◌≡◌, ℕ, ◌<◌, List, [], ◌∷◌, ◌++◌, length, map, get_or, refl, sym, ap, ◌∙◌, subst, arith}
use Rattle.std.proofs.lemmas.List.{get_or-map, length-map}
use Rattle.std.specs.List.Sorted.{IsPermutation}
use Rattle.lsm_memtable.specs.Memtables.{SeenMemtable}
use Rattle.lsm_tables.specs.Tables.{SeenTable}
use Rattle.lsm_versions.specs.Levels.{SeenVersion, IsNext, IsVersion, all_of, left_in}
use Rattle.lsm_versions.specs.Installs.{ChangesKeepTables}
use Rattle.lsm_flush.specs.Jobs.{ids_in, entries_in}
use Rattle.lsm_parts.specs.Held.{entries_of}

-- where memtables have the entries that are held under their ids, each has
pub has_own : (held memtables : List SeenMemtable) (i : ℕ) (m : SeenMemtable) → i < length memtables → m ≡ get_or memtables i m → entries_in memtables ≡ map (entries_of held) (ids_in memtables) → m.entries ≡ entries_of held m.id
has_own held memtables i m lt is same =
    let lt_ids : i < length (ids_in memtables) = omega (arith, length-map memtables (λ m. m.id)) in
    ap (λ t. t.entries) is ∙ sym (get_or-map (λ t. t.entries) memtables i m [] lt) ∙ ap (λ l. get_or l i []) same ∙ get_or-map (entries_of held) (ids_in memtables) i m.id [] lt_ids
    ∙ ap (entries_of held) (get_or-map (λ t. t.id) memtables i m m.id lt ∙ ap (λ t. t.id) (sym is))

-- all tables are left, where none go
left_none : (tables : List SeenTable) → left_in [] tables ≡ tables
left_none [] = refl
left_none (t ∷ tables) = ap (λ l. t ∷ l) (left_none tables)

-- a version with a run in front has the run's tables and those it had
pub tables_kept : (run : List SeenTable) (from : ℕ) (old new : SeenVersion) → ChangesKeepTables → IsVersion old.levels → IsNext [] run 0 from old new → IsPermutation (run ++ all_of old.levels) (all_of new.levels)
tables_kept run from old new law is next =
    let some : 0 < length old.levels = omega (arith, is.seven) in
    subst (λ l. IsPermutation (run ++ l) (all_of new.levels)) (left_none (all_of old.levels)) (law [] run 0 old.levels new.levels next.levels some)
