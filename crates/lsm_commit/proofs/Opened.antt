-- What opening leaves is stored.
use Rattle.std.proofs.Common.{◌≡◌, ◌⊎◌, inl, inr, ⊎_elim, ℕ, ◌<◌, ◌^◌, Bool, false, List, [], ◌∷◌, ◌++◌, map, Option, Some, None, Ok, refl, sym, ap, ◌∙◌, subst, codes, lit<}
use Rattle.std.specs.Prelude.{IsSome}
use Rattle.std.specs.List.{AllByRecursion}
use Rattle.lsm_below.specs.Each.{each_both}
use Rattle.lsm_below.specs.Optimizes.{tables_of}
use Rattle.lsm_store.specs.World.{Image, World}
use Rattle.lsm_tables.specs.Sum.{sum_of}
use Rattle.lsm_tables.specs.Tables.{SeenTable}
use Rattle.lsm_versions.specs.Levels.{Levels as SeenLevels, SeenVersion, all_of}
use Rattle.lsm_manifest.specs.declared.kinds.NameKind.TheVariants.{Other}
use Rattle.lsm_manifest.specs.declared.opening.Opened.{Opened}
use Rattle.lsm_manifest.specs.declared.recovered_table.RecoveredTable.{RecoveredTable}
use Rattle.lsm_manifest.specs.Names.{current_name, version_name, table_name}
use Rattle.lsm_manifest.specs.Kinds.{kind_of, is_orphan}
use Rattle.lsm_manifest.specs.Spelling.{ids_of, IsNamedTable, IsRun, IsLevel, IsLayout, IsFileFrom, IsVersionFile}
use Rattle.lsm_manifest.specs.Recovery.{Levels, IsNamed}
use Rattle.lsm_manifest.specs.Versions.{named_table, named_runs, named_levels, file_of, first_version}
use Rattle.lsm_manifest.specs.Standing.{Pairwise, IsTableAt, AreTablesAt}
use Rattle.lsm_manifest.specs.Clearing.{Removes}
use Rattle.lsm_manifest.specs.Opening.{IsFound, ReadsFrom, IsNewTree, Opens}
use Rattle.lsm_manifest.specs.Finding.{NamedFilesStay}
use Rattle.lsm_manifest.specs.Ready.{NeverHas, KeepsNamed, BringsGoodNames}
use Rattle.lsm_commit.specs.Stored.{table_file, IsTableOnDisk, AreOnDisk, IsFileOf, IsStored}
use Rattle.lsm_commit.proofs.Images.{each_joined}
use Rattle.lsm_commit.proofs.Removals.{AreApart}
use Rattle.lsm_commit.proofs.Committed.{is_either, either_not_older, either_not_refused}

-- ---- tables that are found are those that the version's file names

table_named : (image : Image) (t : RecoveredTable) (u : SeenTable) → IsNamedTable t → IsTableAt image t u → t ≡ named_table u
table_named image t u fits at =
    ap (λ (i : ℕ). record { id = i; checksum = t.checksum; global_seqno = t.global_seqno }) (sym at.id)
    ∙ ap (λ (s : ℕ). record { id = u.id; checksum = record { 0 = s }; global_seqno = t.global_seqno }) (sym at.summed ∙ ap sum_of at.reads.spelling)
    ∙ ap (λ (n : ℕ). record { id = u.id; checksum = record { 0 = sum_of (table_file u) }; global_seqno = n }) fits.global_seqno

-- where each pair is of one item, the lists are of the same
all_named : {A B : Type 0} (S : A → Type 0) (R : A → B → Type 0) (f : B → A) → ((x : A) (y : B) → S x → R x y → x ≡ f y) → (xs : List A) (ys : List B) → AllByRecursion S xs → Pairwise R xs ys → xs ≡ map f ys
all_named S R f same [] [] s r = refl
all_named S R f same [] (y ∷ ys) s r = absurd r
all_named S R f same (x ∷ xs) [] s r = absurd r
all_named S R f same (x ∷ xs) (y ∷ ys) s r = ap (λ z. z ∷ xs) (same x y s.0 r.0) ∙ ap (λ zs. f y ∷ zs) (all_named S R f same xs ys s.1 r.1)

levels_named : (image : Image) (ls : Levels) (ts : SeenLevels) → IsLayout ls → AreTablesAt image ls ts → ls ≡ named_levels ts
levels_named image ls ts laid at =
    let of_run = all_named IsNamedTable (IsTableAt image) named_table (table_named image) in
    let of_level = all_named IsRun (Pairwise (IsTableAt image)) (λ r. map named_table r) (λ r us fits. of_run r us fits.each) in
    all_named IsLevel (Pairwise (Pairwise (IsTableAt image))) named_runs (λ l rs fits. of_level l rs fits.each) ls ts laid.each at

-- no version's file begins another one
abbrev pub FilesAreFirst : Type 0
FilesAreFirst = (ls ms : Levels) (a b x y : List ℕ) → IsVersionFile ls a → IsVersionFile ms b → a ++ x ≡ b ++ y → (ls ≡ ms) × (a ≡ b) × (x ≡ y)

-- so what the file of a version tells beside its levels stands beside those that were found
told_beside : FilesAreFirst → (image : Image) (v : SeenVersion) (ls : Levels) (named : IsNamed image v.id ls) (reads : ReadsFrom image v) → IsFileFrom reads.from ls named.bytes
told_beside once image v ls named reads =
    let file = reads.named.reads in
    let bytes : reads.named.bytes ≡ named.bytes = some_is (sym reads.named.version ∙ named.version) in
    let same = once reads.layout ls reads.named.bytes named.bytes [] [] (record { from = reads.from; file = file }) named.reads (ap (λ (b : List ℕ). b ++ []) bytes) in
    subst (λ (b : List ℕ). IsFileFrom reads.from ls b) bytes (subst (λ (ms : Levels). IsFileFrom reads.from ms reads.named.bytes) same.0 file)
  where
    some_is : {a b : List ℕ} → Some a ≡ Some b → a ≡ b
    some_is e = cc e

-- ---- what `current` names

-- of each second, by two facts of each first
all_second : {A B : Type 0} (S T : A → Type 0) (R : A → B → Type 0) (Q : B → Type 0) → ((x : A) (y : B) → S x → T x → R x y → Q y) → (xs : List A) (ys : List B) → AllByRecursion S xs → AllByRecursion T xs → Pairwise R xs ys → AllByRecursion Q ys
all_second S T R Q f [] [] s t r = tt
all_second S T R Q f [] (y ∷ ys) s t r = absurd r
all_second S T R Q f (x ∷ xs) [] s t r = absurd r
all_second S T R Q f (x ∷ xs) (y ∷ ys) s t r = (f x y s.0 t.0 r.0, all_second S T R Q f xs ys s.1 t.1 r.1)

module _ (old new : World) where
  -- a crash leaves of the name what reads gave
  abbrev LeavesGiven : List ℕ → Type 0
  LeavesGiven n = (c : Option (List ℕ)) → new.may n c → c ≡ old.gives n

  table_on : (t : RecoveredTable) (u : SeenTable) → IsNamedTable t → LeavesGiven (table_name t.id) → IsTableAt old.gives t u → IsTableOnDisk new u
  table_on t u fits given at = record {
    id = subst (λ i. i < 2 ^ 64) (sym at.id) fits.id;
    reads = record { moment = at.reads.moment; table = at.reads.table; spelling = refl };
    file = λ c may. given c (subst (λ i. new.may (table_name i) c) at.id may) ∙ at.file ∙ ap Some at.reads.spelling;
  }

  tables_on : (ls : Levels) (ts : SeenLevels) → IsLayout ls → AllByRecursion (λ l. AllByRecursion (λ r. AllByRecursion (λ t. LeavesGiven (table_name t.id)) r) l) ls → AreTablesAt old.gives ls ts → AreOnDisk new (all_of ts)
  tables_on ls ts laid given at =
      let Given = λ (t : RecoveredTable). LeavesGiven (table_name t.id) in
      let of_run = all_second IsNamedTable Given (IsTableAt old.gives) (IsTableOnDisk new) table_on in
      let of_level = all_second IsRun (AllByRecursion Given) (Pairwise (IsTableAt old.gives)) (AllByRecursion (IsTableOnDisk new)) (λ r us fits. of_run r us fits.each) in
      each_joined (IsTableOnDisk new) (tables_of ts)
      (each_joined (AllByRecursion (IsTableOnDisk new)) ts
      (all_second IsLevel (AllByRecursion (AllByRecursion Given)) (Pairwise (Pairwise (IsTableAt old.gives))) (AllByRecursion (AllByRecursion (IsTableOnDisk new))) (λ l rs fits. of_level l rs fits.each) ls ts laid.each given at))

  module _ (orphan : List ℕ → Bool) (removes : Removes orphan old new) where
    given : (n : List ℕ) (impossible : Option (List ℕ)) → orphan n ≡ false → NeverHas old n impossible → LeavesGiven n
    given n impossible stays not c may = removes.on_disk n stays impossible c not may

    never : (n : List ℕ) → ((c : Option (List ℕ)) → old.may n c → c ≡ None) → (c : Option (List ℕ)) → new.may n c → c ≡ None
    never n none c may = ⊎_elim (none c) (λ gone. gone.0) (removes.may n c may)

  -- the version that was found
  found_stored : FilesAreFirst → NamedFilesStay → BringsGoodNames old → (v : SeenVersion) (next : ℕ) (ids : List ℕ) (found : IsFound old.gives v.id v.levels next ids) → KeepsNamed old v.id found.layout → ReadsFrom old.gives v → Removes (is_orphan v.id (ids_of found.layout)) old new → IsStored new (v ∷ []) []
  found_stored once stay names v next ids found keeps reads removes =
      let named = found.named in
      let laid = named.reads.file.is.laid_out in
      let orphan = is_orphan v.id (ids_of found.layout) in
      let spared = stay v.id found.layout laid in
      let tables : AllByRecursion (λ l. AllByRecursion (λ r. AllByRecursion (λ (t : RecoveredTable). LeavesGiven (table_name t.id)) r) l) found.layout =
      each_both _ _ _ (λ l. each_both _ _ _ (λ r. each_both _ _ _ (λ t. given orphan removes (table_name t.id) None) r) l) found.layout spared.tables keeps.tables in
      let file : IsFileOf new v named.bytes = record {
        from = reads.from;
        log_from = reads.is;
        reads = subst (λ ls. IsFileFrom reads.from ls named.bytes) (levels_named old.gives found.layout v.levels laid found.tables) (told_beside once old.gives v found.layout named reads);
        on_disk = λ c may. given orphan removes (version_name v.id) None spared.version keeps.version c may ∙ named.version;
      } in
      record {
        current = λ c may. (v, inl refl, record { bytes = named.bytes; file = file; named = given orphan removes current_name (Some []) spared.current keeps.current c may ∙ named.current });
        whole = (record { id = named.id_fits; bytes = named.bytes; file = file; runs = found.runs; tables = tables_on found.layout v.levels laid tables found.tables }, tt);
        written = tt;
        no_version = never orphan removes (codes "version") names.no_version;
        in_tables = λ n c bad. never orphan removes n (λ d. names.in_tables n d bad) c;
      }

  -- a new tree
  first_stored : AreApart → kind_of current_name ≡ Other → BringsGoodNames old → (o : Opened) → IsNewTree o old new → IsStored new (o.version ∷ []) []
  first_stored apart plain names o tree =
      let p = tree.persisted in
      let bytes = file_of first_version in
      let still = λ (n : List ℕ) (c : Option (List ℕ)) (out : is_either 0 n → ⊥). p.may n c (λ e. out (inl e)) (λ e. out (inr e)) in
      let file : IsFileOf new first_version bytes = record { from = Some 0; log_from = refl; reads = tree.names; on_disk = λ c may. (p.version c).0 may } in
      subst (λ (v : SeenVersion). IsStored new (v ∷ []) []) (sym tree.version)
      (record {
        current = λ c may. (first_version, inl refl, record { bytes = bytes; file = file; named = (p.current c).0 may });
        whole = (record { id = lit< tt; bytes = bytes; file = file; runs = (tt, (tt, (tt, (tt, (tt, (tt, (tt, tt))))))); tables = tt }, tt);
        written = tt;
        no_version = λ c may. names.no_version c (still (codes "version") c (either_not_older apart plain 0 (lit< tt)) may);
        in_tables = λ n c bad may. names.in_tables n c bad (still n c (either_not_refused apart plain 0 (lit< tt) n bad) may);
      })

-- ---- what is opened

some_or_none : (o : Option (List ℕ)) → IsSome o ⊎ (o ≡ None)
some_or_none (Some b) = inl refl
some_or_none None = inr refl

pub opening_stored : AreApart → kind_of current_name ≡ Other → FilesAreFirst → NamedFilesStay → (old new : World) (o : Opened) → BringsGoodNames old → ((id : ℕ) (ls : Levels) → IsNamed old.gives id ls → KeepsNamed old id ls) → Opens old new (Ok o) → IsStored new (o.version ∷ []) []
opening_stored apart plain once stay old new o names keeps opens = ⊎_elim (λ older. absurd (opens.version older)) (λ none. ⊎_elim (there none) (λ absent. first_stored old new apart plain names o (opens.fresh none absent)) (some_or_none (old.gives current_name))) (some_or_none (old.gives (codes "version")))
  where
    there : old.gives (codes "version") ≡ None → IsSome (old.gives current_name) → IsStored new (o.version ∷ []) []
    there none some = let f = opens.opens none some in found_stored old new once stay names o.version o.next_table_id f.0 f.1 (keeps o.version.id f.1.layout f.1.named) (opens.from some) (opens.removes o.version.id f.1.layout f.1.named)
