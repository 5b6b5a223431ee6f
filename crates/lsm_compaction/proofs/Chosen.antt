-- What runs have of chosen tables.
use Rattle.std.proofs.Common.{◌≡◌, ℕ, zero, suc, ◌+◌, ◌<◌, ◌≤◌, Bool, true, false, ◌&&◌, ◌||◌, cond, eqb, List, [], ◌∷◌, ◌++◌, length, map, get_or, take, refl, sym, ◌∙◌, ap, append-nil, arith}
use Rattle.std.specs.Prelude.{◌==◌}
use Rattle.std.specs.List.{list_any}
use Rattle.std.proofs.lemmas.Bool.{eqb-true, and_right}
use Rattle.std.proofs.lemmas.Grind.{flat_map-append}
use Rattle.std.proofs.lemmas.List.{take_more}
use Rattle.std.proofs.lemmas.List.Elements.{filter-append}
use Rattle.lsm_below.specs.Optimizes.{tables_of}
use Rattle.lsm_model.specs.Steps.{among}
use Rattle.lsm_tables.specs.Tables.{SeenTable}
use Rattle.lsm_versions.specs.Chosen.{AreThere, AreIdsOf}
use Rattle.lsm_versions.specs.Levels.{Levels, all_of, chosen_in, in_front}
use Rattle.lsm_versions.specs.TableLaws.{flips}
use Rattle.lsm_versions.proofs.Runs.{front_append}
use Rattle.lsm_compaction.specs.Merges.{inputs_in}

pub inputs_append : (ids : List ℕ) (xs ys : List (List SeenTable)) → inputs_in ids (xs ++ ys) ≡ inputs_in ids xs ++ inputs_in ids ys
inputs_append ids [] ys = refl
inputs_append ids (x ∷ xs) ys = ap (in_front (chosen_in ids x)) (inputs_append ids xs ys) ∙ front_append (chosen_in ids x) (inputs_in ids xs) (inputs_in ids ys)

-- one run more
pub inputs_more : (ids : List ℕ) (xs : List (List SeenTable)) (i : ℕ) (x : List SeenTable) → i < length xs → x ≡ get_or xs i x → inputs_in ids (take (i + 1) xs) ≡ inputs_in ids (take i xs) ++ in_front (chosen_in ids x) []
inputs_more ids xs i x lt read = ap (inputs_in ids) (take_more xs i x lt) ∙ (inputs_append ids (take i xs) (get_or xs i x ∷ []) ∙ ap (λ r. inputs_in ids (take i xs) ++ in_front (chosen_in ids r) []) (sym read))

tables_front : (a : List SeenTable) (runs : List (List SeenTable)) → tables_of (in_front a runs) ≡ a ++ tables_of runs
tables_front [] runs = refl
tables_front (x ∷ xs) runs = refl

-- they are the chosen tables, run by run
pub inputs_tables : (ids : List ℕ) (runs : List (List SeenTable)) → tables_of (inputs_in ids runs) ≡ chosen_in ids (tables_of runs)
inputs_tables ids [] = refl
inputs_tables ids (run ∷ runs) =
    tables_front (chosen_in ids run) (inputs_in ids runs)
    ∙ ap (λ l. chosen_in ids run ++ l) (inputs_tables ids runs)
    ∙ sym (filter-append (λ t. among ids t.id) run (tables_of runs))

-- one level more
pub runs_more : (levels : List (List (List SeenTable))) (i : ℕ) (level : List (List SeenTable)) → i < length levels → level ≡ get_or levels i level → tables_of (take (i + 1) levels) ≡ tables_of (take i levels) ++ level
runs_more levels i level lt is =
    ap tables_of (take_more levels i level lt ∙ ap (λ l. take i levels ++ l ∷ []) (sym is)) ∙ flat_map-append (λ r. r) (take i levels) (level ∷ []) ∙ ap (λ l. tables_of (take i levels) ++ l) (append-nil level)

take_nil : {A : Type 0} (i : ℕ) → take {A = A} i [] ≡ []
take_nil zero = refl
take_nil (suc i) = refl

take_whole : {A : Type 0} (xs : List A) (i : ℕ) → length xs ≤ i → take i xs ≡ xs
take_whole [] i le = take_nil i
take_whole (x ∷ xs) zero le = absurd (omega arith)
take_whole (x ∷ xs) (suc i) le = ap (λ l. x ∷ l) (take_whole xs i (omega arith))

-- ---- their ids

chosen_cases : (chosen e a r more : Bool) → (e ≡ true → chosen ≡ a) → more ≡ (a && r) → cond chosen (e || more) more ≡ (a && (e || r))
chosen_cases true true a r more same is = ap (λ b. b && true) (same refl)
chosen_cases true false a r more same is = is
chosen_cases false true a r more same is = is ∙ ap (λ b. b && r) (sym (same refl)) ∙ ap (λ b. b && true) (same refl)
chosen_cases false false a r more same is = is

-- of the chosen tables an id is one just where it was chosen and is that of one of all
chosen_among : (ids : List ℕ) (ts : List SeenTable) (i : ℕ) → among (map (λ t. t.id) (chosen_in ids ts)) i ≡ (among ids i && among (map (λ t. t.id) ts) i)
chosen_among ids [] i = sym (and_right (among ids i) false refl)
chosen_among ids (t ∷ ts) i =
    pushed (among ids t.id) ∙ chosen_cases (among ids t.id) (eqb i t.id) (among ids i) (among (map (λ u. u.id) ts) i) (among (map (λ u. u.id) (chosen_in ids ts)) i) (λ e. ap (among ids) (sym (eqb-true i t.id e))) (chosen_among ids ts i)
  where
    pushed : (b : Bool) → among (map (λ u. u.id) (cond b (t ∷ chosen_in ids ts) (chosen_in ids ts))) i ≡ cond b (eqb i t.id || among (map (λ u. u.id) (chosen_in ids ts)) i) (among (map (λ u. u.id) (chosen_in ids ts)) i)
    pushed true = refl
    pushed false = refl

id_there : (i : ℕ) (ts : List SeenTable) → list_any (λ t. t.id == i) ts ≡ among (map (λ t. t.id) ts) i
id_there i [] = refl
id_there i (t ∷ ts) = ap (λ b. b || list_any (λ u. u.id == i) ts) (flips t.id i) ∙ ap (λ b. eqb i t.id || b) (id_there i ts)

all_there : (ids : List ℕ) (levels : Levels) → AreThere levels ids → (i : ℕ) → among ids i ≡ true → among (map (λ t. t.id) (all_of levels)) i ≡ true
all_there [] levels h i is = absurd (cc is)
all_there (id ∷ ids) levels h i is = first (all_there ids levels h.1 i) (eqb i id) refl is
  where
    first : (among ids i ≡ true → among (map (λ t. t.id) (all_of levels)) i ≡ true) → (b : Bool) → eqb i id ≡ b → (b || among ids i) ≡ true → among (map (λ t. t.id) (all_of levels)) i ≡ true
    first others true q more = ap (λ n. among (map (λ t. t.id) (all_of levels)) n) (eqb-true i id q) ∙ sym (id_there id (all_of levels)) ∙ h.0
    first others false q more = others more

pub chosen_ids : (ids : List ℕ) (levels : Levels) → AreThere levels ids → AreIdsOf ids (chosen_in ids (all_of levels))
chosen_ids ids levels h i = both (among ids i) refl ∙ sym (chosen_among ids (all_of levels) i)
  where
    both : (b : Bool) → among ids i ≡ b → b ≡ (b && among (map (λ t. t.id) (all_of levels)) i)
    both true q = sym (all_there ids levels h i q)
    both false q = refl

-- at the end of the levels
pub inputs_whole : (ids : List ℕ) (levels : Levels) (i : ℕ) (items : List (List SeenTable)) → items ≡ inputs_in ids (tables_of (take i levels)) → length levels ≤ i → tables_of items ≡ chosen_in ids (all_of levels)
inputs_whole ids levels i items is le = ap tables_of (is ∙ ap (λ (ls : Levels). inputs_in ids (tables_of ls)) (take_whole levels i le)) ∙ inputs_tables ids (tables_of levels)
