-- What is written of versions' tables.
use Rattle.std.proofs.Common.{◌≡◌, ℕ, List, [], ◌∷◌, ◌++◌, Some, map, codes, refl, sym, ap, ◌∙◌, append_assoc}
use Rattle.std.specs.List.{flat_map}
use Rattle.std.proofs.lemmas.List.{map-append}
use Rattle.std.proofs.lemmas.List.Concat.{flat_map-cons}
use Rattle.std.proofs.lemmas.Grind.{flat_map-append}
use Rattle.lsm_below.specs.Optimizes.{tables_of}
use Rattle.lsm_tables.specs.Tables.{SeenTable}
use Rattle.lsm_versions.specs.Levels.{Levels, all_of}
use Rattle.lsm_manifest.specs.Spelling.{section, format_version, crate_version, tree_type, level_count, filter_hash_type, tables, from_section, file, ids_of_run, ids_of_level, ids_of}
use Rattle.lsm_manifest.specs.Versions.{named_table, named_runs, named_levels}

run_named : (run : List SeenTable) → ids_of_run (map named_table run) ≡ map (λ t. t.id) run
run_named [] = refl
run_named (t ∷ run) = ap (λ ids. t.id ∷ ids) (run_named run)

level_named : (runs : List (List SeenTable)) → ids_of_level (named_runs runs) ≡ map (λ t. t.id) (tables_of runs)
level_named [] = refl
level_named (run ∷ runs) =
    flat_map-cons ids_of_run (map named_table run) (named_runs runs) ∙ ap (λ ids. ids ++ ids_of_level (named_runs runs)) (run_named run) ∙ ap (λ ids. map (λ t. t.id) run ++ ids) (level_named runs)
    ∙ sym (map-append (λ t. t.id) run (tables_of runs)) ∙ ap (map (λ t. t.id)) (sym (flat_map-cons (λ r. r) run runs))

-- the ids in a version's file are those of its tables
pub ids_named : (levels : Levels) → ids_of (named_levels levels) ≡ map (λ t. t.id) (all_of levels)
ids_named [] = refl
ids_named (runs ∷ levels) =
    flat_map-cons ids_of_level (named_runs runs) (named_levels levels) ∙ ap (λ ids. ids ++ ids_of (named_levels levels)) (level_named runs) ∙ ap (λ ids. map (λ t. t.id) (tables_of runs) ++ ids) (ids_named levels)
    ∙ sym (map-append (λ t. t.id) (tables_of runs) (all_of levels)) ∙ ap (map (λ t. t.id)) (sym (flat_map-append (λ r. r) runs (tables_of levels)) ∙ ap (flat_map (λ r. r)) (sym (flat_map-cons (λ r. r) runs levels)))

-- the sections one after the other are the file
pub put_together : (start one two three : List ℕ) (n m : ℕ) (content laid : List ℕ) → start ≡ [] → one ≡ start ++ (section format_version (4 ∷ []) ++ section crate_version (codes "3.1.10"))
    → two ≡ one ++ (section tree_type (0 ∷ []) ++ (section level_count (7 ∷ []) ++ (section filter_hash_type (0 ∷ []) ++ section tables content))) → three ≡ two ++ from_section (Some n)
    → content ≡ laid → n ≡ m → three ≡ file (Some m) (codes "3.1.10") laid
put_together start one two three n m content laid e0 e1 e2 e3 same number =
    let a : List ℕ = section format_version (4 ∷ []) in
    let b : List ℕ = section crate_version (codes "3.1.10") in
    let c : List ℕ = section tree_type (0 ∷ []) in
    let d : List ℕ = section level_count (7 ∷ []) in
    let e : List ℕ = section filter_hash_type (0 ∷ []) in
    let f : List ℕ = section tables content in
    let g : List ℕ = from_section (Some n) in
    let first : one ≡ a ++ b = e1 ∙ ap (λ (l : List ℕ). l ++ (a ++ b)) e0 in
    let second : two ≡ (a ++ b) ++ (c ++ (d ++ (e ++ f))) = e2 ∙ ap (λ (l : List ℕ). l ++ (c ++ (d ++ (e ++ f)))) first in
    let third : three ≡ ((a ++ b) ++ (c ++ (d ++ (e ++ f)))) ++ g = e3 ∙ ap (λ (l : List ℕ). l ++ g) second in
    third ∙ together a b c d e f g ∙ ap (λ (l : List ℕ). file (Some n) (codes "3.1.10") l) same ∙ ap (λ (k : ℕ). file (Some k) (codes "3.1.10") laid) number
  where
    together : (a b c d e f g : List ℕ) → ((a ++ b) ++ (c ++ (d ++ (e ++ f)))) ++ g ≡ a ++ (b ++ (c ++ (d ++ (e ++ (f ++ g)))))
    together a b c d e f g = simp append_assoc
