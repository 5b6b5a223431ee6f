-- Tables that are read as a layout names them make a version.
use Rattle.std.proofs.Common.{◌≡◌, ⊎_elim, ℕ, suc, ◌^◌, ◌<◌, ◌≤◌, true, max, List, [], ◌∷◌, ◌++◌, length, map, Option, refl, sym, ap, subst, ◌∙◌, nat_lt, Result, Ok, Err, arith}
use Rattle.std.specs.List.{AllByRecursion, flat_map, fold, list_all}
use Rattle.std.proofs.lemmas.Bool.{and_from}
use Rattle.std.proofs.lemmas.Bool.Decides.{nat_tests}
use Rattle.std.proofs.lemmas.Grind.{flat_map-append}
use Rattle.std.proofs.lemmas.List.{map-append}
use Rattle.std.proofs.lemmas.List.Concat.{flat_map-cons}
use Rattle.lsm_below.specs.Optimizes.{tables_of}
use Rattle.lsm_store.specs.World.{Image}
use Rattle.lsm_tables.specs.Tables.{SeenTable}
use Rattle.lsm_versions.specs.Levels.{Levels as SeenLevels, SeenVersion, all_of, level_fits, fits, AreRuns}
use Rattle.lsm_manifest.specs.declared.recovered_table.RecoveredTable.{RecoveredTable}
use Rattle.lsm_manifest.specs.declared.fault.OpenError.{OpenError}
use Rattle.lsm_manifest.specs.declared.fault.OpenError.TheVariants as opening
use Rattle.lsm_manifest.specs.Spelling.{ids_of_run, ids_of_level, ids_of, IsRun, IsLevel, IsLayout, AreDistinct}
use Rattle.lsm_manifest.specs.Recovery.{Levels}
use Rattle.lsm_manifest.specs.Standing.{Pairwise, IsOf, AreNamed, AreTablesAt, HasSmallNumbers}
use Rattle.lsm_manifest.specs.Opening.{IsFilled, IsComplete, IsAbove, MakesVersion, ChecksLevels, NoRun, TooGreat, next_id}

pairwise_length : {A B : Type 0} (R : A → B → Type 0) (xs : List A) (ys : List B) → Pairwise R xs ys → length ys ≡ length xs
pairwise_length R [] [] h = refl
pairwise_length R [] (y ∷ ys) h = absurd h
pairwise_length R (x ∷ xs) [] h = absurd h
pairwise_length R (x ∷ xs) (y ∷ ys) h = ap suc (pairwise_length R xs ys h.1)

below : (n k : ℕ) → n < k → nat_lt n k ≡ true
below n k h = grind (arith, nat_tests)

-- ---- runs have a table, and a manifest can write them

runs_filled : (rs : List (List RecoveredTable)) (us : List (List SeenTable)) → AllByRecursion IsRun rs → Pairwise (Pairwise IsOf) rs us → AllByRecursion IsFilled us × (list_all (λ run. nat_lt (length run) (2 ^ 32)) us ≡ true)
runs_filled [] [] fits h = (tt, refl)
runs_filled [] (u ∷ us) fits h = absurd h
runs_filled (r ∷ rs) [] fits h = absurd h
runs_filled (r ∷ rs) (u ∷ us) fits h =
    let len = pairwise_length IsOf r u h.0 in
    let rest = runs_filled rs us fits.1 h.1 in
    let small : length u < 2 ^ 32 = omega (arith, len, fits.0.count) in
    ((omega (arith, len, fits.0.some), rest.0), and_from (nat_lt (length u) (2 ^ 32)) (list_all (λ run. nat_lt (length run) (2 ^ 32)) us) (below (length u) (2 ^ 32) small) rest.1)

levels_filled : (ls : Levels) (ts : SeenLevels) → AllByRecursion IsLevel ls → AreNamed ls ts → AllByRecursion (λ l. AllByRecursion IsFilled l) ts × (fits ts ≡ true)
levels_filled [] [] fit h = (tt, refl)
levels_filled [] (t ∷ ts) fit h = absurd h
levels_filled (l ∷ ls) [] fit h = absurd h
levels_filled (l ∷ ls) (t ∷ ts) fit h =
    let len = pairwise_length (Pairwise IsOf) l t h.0 in
    let here = runs_filled l t fit.0.each h.0 in
    let rest = levels_filled ls ts fit.1 h.1 in
    let few : length t < 256 = omega (arith, len, fit.0.count) in
    let this : level_fits t ≡ true = and_from (nat_lt (length t) 256) (list_all (λ run. nat_lt (length run) (2 ^ 32)) t) (below (length t) 256 few) here.1 in
    ((here.0, rest.0), and_from (level_fits t) (fits ts) this rest.1)

-- ---- ids

run_ids : (r : List RecoveredTable) (u : List SeenTable) → Pairwise IsOf r u → ids_of_run r ≡ map (λ t. t.id) u
run_ids [] [] h = refl
run_ids [] (u ∷ us) h = absurd h
run_ids (t ∷ r) [] h = absurd h
run_ids (t ∷ r) (u ∷ us) h = ap (λ (i : ℕ). i ∷ ids_of_run r) (sym h.0) ∙ ap (λ (ids : List ℕ). u.id ∷ ids) (run_ids r us h.1)

level_ids : (l : List (List RecoveredTable)) (us : List (List SeenTable)) → Pairwise (Pairwise IsOf) l us → ids_of_level l ≡ map (λ t. t.id) (tables_of us)
level_ids [] [] h = refl
level_ids [] (u ∷ us) h = absurd h
level_ids (r ∷ l) [] h = absurd h
level_ids (r ∷ l) (u ∷ us) h =
    flat_map-cons ids_of_run r l ∙ ap (λ ids. ids ++ ids_of_level l) (run_ids r u h.0) ∙ ap (λ ids. map (λ t. t.id) u ++ ids) (level_ids l us h.1)
    ∙ sym (map-append (λ t. t.id) u (tables_of us)) ∙ ap (map (λ t. t.id)) (sym (flat_map-cons (λ r. r) u us))

pub ids_loaded : (ls : Levels) (ts : SeenLevels) → AreNamed ls ts → ids_of ls ≡ map (λ t. t.id) (all_of ts)
ids_loaded [] [] h = refl
ids_loaded [] (t ∷ ts) h = absurd h
ids_loaded (l ∷ ls) [] h = absurd h
ids_loaded (l ∷ ls) (t ∷ ts) h =
    flat_map-cons ids_of_level l ls ∙ ap (λ ids. ids ++ ids_of ls) (level_ids l t h.0) ∙ ap (λ ids. map (λ u. u.id) (tables_of t) ++ ids) (ids_loaded ls ts h.1)
    ∙ sym (map-append (λ u. u.id) (tables_of t) (all_of ts)) ∙ ap (map (λ u. u.id)) (sym (flat_map-append (λ r. r) t (tables_of ts)) ∙ ap (flat_map (λ r. r)) (sym (flat_map-cons (λ r. r) t ts)))

pub complete : (ls : Levels) (ts : SeenLevels) → IsLayout ls → AreDistinct (ids_of ls) → AreNamed ls ts → IsComplete ts
complete ls ts laid distinct named =
    let both = levels_filled ls ts laid.each named in
    record {
      seven = pairwise_length (Pairwise (Pairwise IsOf)) ls ts named ∙ laid.count;
      filled = both.0;
      fitting = both.1;
      own_ids = subst AreDistinct (ids_loaded ls ts named) distinct;
    }

-- ---- the next id

greatest_so_far : (a : ℕ) (ids : List ℕ) → a ≤ fold max a ids
greatest_so_far a [] = omega arith
greatest_so_far a (i ∷ ids) = omega (arith, greatest_so_far (max a i) ids)

each_below : (next a : ℕ) (ts : List SeenTable) → fold max a (map (λ t. t.id) ts) < next → AllByRecursion (λ t. t.id < next) ts
each_below next a [] h = tt
each_below next a (t ∷ ts) h = (omega (arith, greatest_so_far (max a t.id) (map (λ u. u.id) ts), h), each_below next (max a t.id) ts h)

pub above : (ls : Levels) (ts : SeenLevels) (next : ℕ) → AreNamed ls ts → next ≡ next_id (ids_of ls) → IsAbove next ts
above ls ts next named is small =
    let e : next ≡ next_id (map (λ t. t.id) (all_of ts)) = is ∙ ap next_id (ids_loaded ls ts named) in
    each_below next 0 (all_of ts) (omega (arith, e, small))

-- ---- what is read of them

pub checked : (image : Image) (id : ℕ) (from : Option ℕ) (ls : Levels) (ts : SeenLevels) (r : Result SeenVersion OpenError) → AreTablesAt image ls ts → MakesVersion id from ts r → ChecksLevels {X = SeenVersion} image (λ v. v.levels) ls r
checked image id from ls ts (Ok v) at made = (subst (AreTablesAt image ls) (sym (ap (λ (x : SeenVersion). x.levels) made.0)) at, subst AreRuns (sym (ap (λ (x : SeenVersion). x.levels) made.0)) made.1, subst HasSmallNumbers (sym (ap (λ (x : SeenVersion). x.levels) made.0)) made.2)
checked image id from ls ts (Err opening.OutOfMemory) at made = tt
checked image id from ls ts (Err opening.Store) at made = absurd made
checked image id from ls ts (Err opening.CommitUnknown) at made = made
checked image id from ls ts (Err (opening.Fault f)) at made = ⊎_elim (λ bad. NoRun ts at bad.1 bad.0) (λ bad. TooGreat ts at bad.1 bad.2 bad.0) made
