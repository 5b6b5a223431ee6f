-- The tables of the files that a merge made.
use Rattle.std.proofs.Common.{◌≡◌, ℕ, ◌^◌, ◌<◌, List, [], ◌∷◌, ◌++◌, map, flat_map, refl, sym, ap, ap₂, subst, ◌∙◌}
use Rattle.std.specs.List.{AllByRecursion}
use Rattle.std.specs.List.Sorted.{IsPermutation}
use Rattle.std.proofs.lemmas.List.Concat.{flat_map-cons}
use Rattle.std.proofs.lemmas.List.Elements.{filter-append}
use Rattle.std.proofs.lemmas.Grind.{flat_map-append}
use Rattle.lsm_below.specs.Entries.{Entry, entry_cmp, stack}
use Rattle.lsm_below.specs.Keys.{Bytes, is_same}
use Rattle.lsm_below.specs.Optimizes.{tables_of}
use Rattle.lsm_below.specs.Sorted.{Rises}
use Rattle.lsm_tables.specs.Cutting.{IsCutting}
use Rattle.lsm_tables.specs.Image.{IsTable, IsImageOf, image}
use Rattle.lsm_tables.specs.Tables.{SeenTable}
use Rattle.lsm_versions.specs.Installs.{CutTablesAreRuns}
use Rattle.lsm_compaction.specs.Merges.{run_entries, sources_in, SeenCompaction, IsFileOf, AreKept, AreFilesOf, HoldFiles, AreTablesOf}

-- a table has one content alone
abbrev pub ImagesAreApart : Type 0
ImagesAreApart = (m n : ℕ) (es fs : List Entry) (a b x y : List ℕ) → IsImageOf m es a → IsImageOf n fs b → a ++ x ≡ b ++ y → (m ≡ n) × (es ≡ fs) × (x ≡ y)

pub are_files : (made_at : ℕ) (lists : List (List Entry)) → AllByRecursion IsTable lists → AllByRecursion (IsFileOf made_at) (map (image made_at) lists)
are_files made_at [] h = tt
are_files made_at (es ∷ lists) h = (record { entries = es; table = h.0; spelled = refl }, are_files made_at lists h.1)

-- what is read of the files is what was written
same_entries : ImagesAreApart → (made_at : ℕ) → made_at < 2 ^ 64 → (tables : List SeenTable) (lists : List (List Entry)) → AllByRecursion (λ t. t.created_at ≡ made_at) tables → AllByRecursion (λ t. IsTable t.entries) tables → AllByRecursion IsTable lists
    → map (λ t. image t.created_at t.entries) tables ≡ map (image made_at) lists → map (λ t. t.entries) tables ≡ lists
same_entries law made_at fits [] [] made each written e = refl
same_entries law made_at fits [] (es ∷ lists) made each written e = absurd (cc e)
same_entries law made_at fits (t ∷ tables) [] made each written e = absurd (cc e)
same_entries law made_at fits (t ∷ tables) (es ∷ lists) made each written e =
    let first : image t.created_at t.entries ≡ image made_at es = cc in
    let more : map (λ (u : SeenTable). image u.created_at u.entries) tables ≡ map (image made_at) lists = cc in
    let moment : t.created_at < 2 ^ 64 = subst (λ n. n < 2 ^ 64) (sym made.0) fits in
    let same = law t.created_at made_at t.entries es (image t.created_at t.entries) (image made_at es) [] []
    (record { moment = moment; table = each.0; spelling = refl }) (record { moment = fits; table = written.0; spelling = refl }) (ap (λ (l : List ℕ). l ++ []) first) in
    ap₂ (λ (x : List Entry) (xs : List (List Entry)). x ∷ xs) same.1 (same_entries law made_at fits tables lists made.1 each.1 written.1 more)

flat_entries : (tables : List SeenTable) → flat_map (λ l. l) (map (λ t. t.entries) tables) ≡ run_entries tables
flat_entries [] = refl
flat_entries (t ∷ tables) = flat_map-cons (λ (l : List Entry). l) t.entries (map (λ t. t.entries) tables) ∙ ap (λ (l : List Entry). t.entries ++ l) (flat_entries tables) ∙ sym (flat_map-cons (λ (u : SeenTable). u.entries) t tables)

-- ---- of each key

stack_of_run : (k : Bytes) (run : List SeenTable) → stack k (run_entries run) ≡ flat_map (λ t. stack k t.entries) run
stack_of_run k [] = refl
stack_of_run k (t ∷ run) =
    ap (stack k) (flat_map-cons (λ (u : SeenTable). u.entries) t run)
    ∙ filter-append (λ (e : Entry). is_same k e.key.user_key) t.entries (run_entries run)
    ∙ ap (λ (l : List Entry). stack k t.entries ++ l) (stack_of_run k run)
    ∙ sym (flat_map-cons (λ (u : SeenTable). stack k u.entries) t run)

stacks_of_runs : (k : Bytes) (runs : List (List SeenTable)) → flat_map (stack k) (sources_in runs) ≡ flat_map (λ t. stack k t.entries) (tables_of runs)
stacks_of_runs k [] = refl
stacks_of_runs k (run ∷ runs) =
    flat_map-cons (stack k) (run_entries run) (sources_in runs)
    ∙ ap₂ (λ (a : List Entry) (b : List Entry). a ++ b) (stack_of_run k run) (stacks_of_runs k runs)
    ∙ sym (flat_map-append (λ (t : SeenTable). stack k t.entries) run (tables_of runs))

-- ---- all together

pub tables_hold : ImagesAreApart → CutTablesAreRuns → (job : SeenCompaction) (files : List Bytes) (ids : List ℕ) (tables : List SeenTable) → job.settings.made_at < 2 ^ 64 → AreFilesOf job.settings job.inputs files → HoldFiles job.settings.made_at files ids tables → AreTablesOf job files ids tables
tables_hold law runs job files ids tables fits h at =
    let s = job.settings in
    let lists = h.images.tables in
    let same : map (λ (t : SeenTable). t.entries) tables ≡ lists = same_entries law s.made_at fits tables lists at.made at.each h.images.each (at.spelled ∙ h.images.spelled) in
    let whole : run_entries tables ≡ h.entries = sym (flat_entries tables) ∙ ap (flat_map (λ l. l)) same ∙ h.images.cut.whole in
    let kept : AreKept s job.inputs (run_entries tables) = subst (AreKept s job.inputs) (sym whole) h.kept in
    let cut : IsCutting s.target_size (run_entries tables) (map (λ (t : SeenTable). t.entries) tables) =
    subst (λ (l : List Entry). IsCutting s.target_size l (map (λ (t : SeenTable). t.entries) tables)) (sym whole) (subst (IsCutting s.target_size h.entries) (sym same) h.images.cut) in
    record {
      files = at;
      kept = kept;
      keeps = λ k es falls perm. kept.in_any_order k es falls (subst (λ (l : List Entry). IsPermutation l es) (sym (stacks_of_runs k job.inputs)) perm);
      cut = cut;
      run = runs s.target_size (run_entries tables) tables (subst (Rises entry_cmp) (sym whole) h.writable.rises) cut;
    }
