-- Contents that are written.
use Rattle.std.proofs.Common.{◌≡◌, ℕ, zero, suc, ◌+◌, ◌<◌, ◌≤◌, ◌^◌, List, [], ◌∷◌, ◌++◌, map, refl, sym, ap, ◌∙◌, subst, arith}
use Rattle.std.specs.List.{AllByRecursion, range_with_len}
use Rattle.std.proofs.lemmas.List.{map-id}
use Rattle.std.proofs.lemmas.List.FromFn.{map-range_with_len_more}
use Rattle.lsm_store.specs.World.{World}
use Rattle.lsm_store.specs.Synced.{KeepsOthers}
use Rattle.lsm_tables.specs.Image.{IsTable}
use Rattle.lsm_tables.specs.Tables.{SeenTable}
use Rattle.lsm_manifest.specs.Names.{table_name}
use Rattle.lsm_commit.specs.Stored.{table_file, AreOnDisk}
use Rattle.lsm_commit.specs.Contents.{IsWritten, AreWritten, FilesAreTables}
use Rattle.lsm_commit.proofs.NextFiles.{file_stays}

-- ---- ids

pub range_below : (a n b : ℕ) → a + n ≤ b → AllByRecursion (λ i. i < b) (range_with_len a n)
range_below a zero b le = tt
range_below a (suc n) b le = (omega (arith, le), range_below (a + 1) n b (omega (arith, le)))

pub range_more : (a n : ℕ) → range_with_len a (n + 1) ≡ range_with_len a n ++ (a + n) ∷ []
range_more a n = sym (map-id (range_with_len a (n + 1))) ∙ map-range_with_len_more (λ i. i) a n (a + n) refl ∙ ap (λ l. l ++ (a + n) ∷ []) (map-id (range_with_len a n))

-- ---- files

-- files of lesser ids that are written stay so
module _ (apart : (i j : ℕ) → i < 2 ^ 64 → j < 2 ^ 64 → table_name i ≡ table_name j → i ≡ j) (next : ℕ) (small : next < 2 ^ 64) (mid new : World) (keeps : KeepsOthers (table_name next) mid new) where
  pub written_stay : (ids : List ℕ) (contents : List (List ℕ)) → AllByRecursion (λ i. i < next) ids → AreWritten mid ids contents → AreWritten new ids contents
  written_stay [] [] below are = tt
  written_stay [] (content ∷ contents) below are = absurd are
  written_stay (i ∷ ids) [] below are = absurd are
  written_stay (i ∷ ids) (content ∷ contents) below are = (record { id_fits = are.0.id_fits; file = file_stays apart next small mid new keeps i content are.0.id_fits below.0 are.0.file }, written_stay ids contents below.1 are.1)

pub written_more : (w : World) (ids : List ℕ) (contents : List (List ℕ)) (id : ℕ) (content : List ℕ) → AreWritten w ids contents → IsWritten w id content → AreWritten w (ids ++ id ∷ []) (contents ++ content ∷ [])
written_more w [] [] id content are is = (is, tt)
written_more w [] (d ∷ contents) id content are is = absurd are
written_more w (i ∷ ids) [] id content are is = absurd are
written_more w (i ∷ ids) (d ∷ contents) id content are is = (are.0, written_more w ids contents id content are.1 is)

-- ---- tables

of_tables : (w : World) (tables : List SeenTable) → AreWritten w (map (λ t. t.id) tables) (map table_file tables) → AllByRecursion (λ t. IsTable t.entries) tables → AllByRecursion (λ t. t.created_at < 2 ^ 64) tables → AreOnDisk w tables
of_tables w [] are tabled made = tt
of_tables w (t ∷ tables) are tabled made = (record { id = are.0.id_fits; reads = record { moment = made.0; table = tabled.0; spelling = refl }; file = are.0.file }, of_tables w tables are.1 tabled.1 made.1)

pub files_are : (w : World) → FilesAreTables w
files_are w ids contents tables are of_ids of_contents tabled made =
    let named = subst (λ (l : List ℕ). AreWritten w l contents) (sym of_ids) are in
    of_tables w tables (subst (λ (l : List (List ℕ)). AreWritten w (map (λ t. t.id) tables) l) (sym of_contents) named) tabled made
