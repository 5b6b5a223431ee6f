-- What opening finds in an image, and that it opens it.
use Rattle.std.proofs.Common.{◌≡◌, ◌+◌, ◌<◌, ◌≤◌, ◌^◌, ℕ, List, [], ◌∷◌, ◌++◌, flat_map, Option, None, Result, Ok, Err, codes, refl, sym, ap, ◌∙◌, subst, arith}
use Rattle.std.specs.FinMap.{empty}
use Rattle.std.specs.List.{AllByRecursion}
use Rattle.lsm_below.specs.Each.{each_append, each_weaker}
use Rattle.lsm_below.specs.Entries.{Entry, above}
use Rattle.lsm_below.specs.Optimizes.{tables_of}
use Rattle.lsm_below.specs.declared.error.Error.{Error}
use Rattle.lsm_store.specs.World.{Image, World, Begins}
use Rattle.lsm_store.specs.Moments.{image_same}
use Rattle.lsm_tables.specs.Image.{Fits}
use Rattle.lsm_tables.specs.Tables.{SeenTable}
use Rattle.lsm_model.specs.Journal.{Map}
use Rattle.lsm_model.specs.Views.{held, placed_from, view}
use Rattle.lsm_model.specs.Beginnings.{ShownAbove}
use Rattle.lsm_versions.specs.Levels.{Levels as SeenLevels, SeenVersion, empty_levels, shown_levels, placed_in, placed_of, tables_shown}
use Rattle.lsm_versions.specs.TableLaws.{placed_cons, entries_of_placed, held_both}
use Rattle.lsm_manifest.specs.declared.fault.Fault.{Fault}
use Rattle.lsm_manifest.specs.declared.fault.OpenError.{OpenError}
use Rattle.lsm_manifest.specs.declared.fault.OpenError.TheVariants as opening
use Rattle.lsm_manifest.specs.declared.opening.Opened.{Opened}
use Rattle.lsm_manifest.specs.declared.kinds.NameKind.TheVariants.{Refused}
use Rattle.lsm_manifest.specs.Names.{current_name, version_name, table_name}
use Rattle.lsm_manifest.specs.Kinds.{kind_of}
use Rattle.lsm_manifest.specs.Recovery.{Levels}
use Rattle.lsm_manifest.specs.Standing.{Pairwise, IsTableAt, AreTablesAt, HasGoodNames, StandsFor}
use Rattle.lsm_manifest.specs.Pinned.{IsFixed}
use Rattle.lsm_manifest.specs.Opening.{OpensFiles, OpensNew}
use Rattle.lsm_manifest.specs.Told.{InStore, TellsFault, TellsOpen}
use Rattle.lsm_manifest.specs.Finding.{Finds, Named, Nothing, StandsForMap, IsSettled, FoundOnce, MapIsOne, RefusesFound, OpensFound, TellsFiles, TellsNew, OpeningFinds, FoundNumbersFit, FoundTablesShow}
use Rattle.lsm_manifest.proofs.OpeningLemmas.{named_once, named_there, some_not_none}
use Rattle.lsm_manifest.proofs.Takes.{ImagesAreFirst, files_fault, tables_once}

-- ---- where nothing is

abbrev pub nothing_in : Image
nothing_in name = None

pub finds_nothing : Finds nothing_in empty_levels
finds_nothing = Nothing refl (record { no_version = refl; in_tables = λ name refused. refl }) refl

pub nothing_stands : StandsForMap nothing_in empty
nothing_stands = record { levels = empty_levels; found = finds_nothing; ordered = λ k. tt; single = λ k. tt; shows = refl }

-- ---- what is found is one

pub found_once : ImagesAreFirst → FoundOnce
found_once first image xs ys (Named id ls a) (Named jd ms b) =
    let once = named_once image id jd ls ms a.named b.named in
    tables_once first image ls xs ys a.tables (subst (λ (l : Levels). AreTablesAt image l ys) (sym once.1) b.tables)
found_once first image xs ys (Named id ls a) (Nothing none good e) = absurd (some_not_none (image current_name) (named_there image id ls a.named) none)
found_once first image xs ys (Nothing none good e) (Named id ls a) = absurd (some_not_none (image current_name) (named_there image id ls a.named) none)
found_once first image xs ys (Nothing none good e) (Nothing none' good' e') = e ∙ sym e'

pub map_once : ImagesAreFirst → MapIsOne
map_once first image m n a b = a.shows ∙ ap (λ (ts : SeenLevels). view (2 ^ 64) (tables_shown ts)) (found_once first image a.levels b.levels a.found b.found) ∙ sym b.shows

-- ---- what is found is opened

module _ (first : ImagesAreFirst) (image : Image) where
  found_levels : (o : Opened) (id : ℕ) (ls : Levels) (ts : SeenLevels) → StandsFor image id ls ts → OpensFiles image (Ok o) → o.version.levels ≡ ts
  found_levels o id ls ts s opens =
      let f = opens.1 in
      found_once first image o.version.levels ts (Named o.version.id f.layout (record { named = f.named; tables = f.tables; runs = f.runs; names = record { no_version = s.names.no_version; in_tables = f.good } })) (Named id ls s)

  files_refuse : (id : ℕ) (ls : Levels) (ts : SeenLevels) (why : OpenError) (e : Error) → StandsFor image id ls ts → TellsOpen why e → OpensFiles image (Err why) → RefusesFound image e
  files_refuse id ls ts opening.OutOfMemory e s tells h = subst (RefusesFound image) (sym tells) tt
  files_refuse id ls ts opening.Store e s tells h = subst (RefusesFound image) (sym tells) tt
  files_refuse id ls ts opening.CommitUnknown e s tells h = absurd h
  files_refuse id ls ts (opening.Fault f) e s tells h =
      let great = files_fault first image id ls ts f s h in
      subst (RefusesFound image) (sym (subst (λ (g : Fault). TellsFault InStore g e) great.0 tells)) (ts, Named id ls s, great.1)

new_refuses : (old new : World) (why : OpenError) (e : Error) → old.gives current_name ≡ None → HasGoodNames old.gives → TellsOpen why e → OpensNew old new (Err why) → RefusesFound old.gives e
new_refuses old new opening.OutOfMemory e none good tells h = subst (RefusesFound old.gives) (sym tells) tt
new_refuses old new opening.Store e none good tells h = subst (RefusesFound old.gives) (sym tells) tt
new_refuses old new opening.CommitUnknown e none good tells h = subst (RefusesFound old.gives) (sym tells) none
new_refuses old new (opening.Fault f) e none good tells h = absurd (some_not_none (old.gives h.1.0) h.1.2 (good.in_tables h.1.0 h.1.1))

opens_found : ImagesAreFirst → (old new : World) (ts : SeenLevels) (r : Result Opened Error) → Finds old.gives ts → TellsFiles old.gives r → TellsNew old new r → OpensFound old.gives ts r
opens_found first old new ts (Ok o) (Named id ls s) opens fresh = found_levels first old.gives o id ls ts s (opens s.names.no_version (named_there old.gives id ls s.named))
opens_found first old new ts (Ok o) (Nothing none good e) opens fresh = ap (λ (v : SeenVersion). v.levels) (fresh good.no_version none).version ∙ sym e
opens_found first old new ts (Err e) (Named id ls s) opens fresh = let t = opens s.names.no_version (named_there old.gives id ls s.named) in files_refuse first old.gives id ls ts t.0 e s t.1 t.2
opens_found first old new ts (Err e) (Nothing none good is) opens fresh = let t = fresh good.no_version none in new_refuses old new t.0 e none good t.1 t.2

pub opening_finds : ImagesAreFirst → (S : Type 0) (world : S → World) → OpeningFinds S world
opening_finds first S world old new = opens_found first (world old) (world new)

-- ---- what is found shows a map

each_flat : {A B : Type 0} (P : B → Type 0) (f : A → List B) (xs : List A) → AllByRecursion (λ x. AllByRecursion P (f x)) xs → AllByRecursion P (flat_map f xs)
each_flat P f [] h = tt
each_flat P f (x ∷ xs) h = each_append P (f x) (flat_map f xs) h.0 (each_flat P f xs h.1)

each_second : {A B : Type 0} (R : A → B → Type 0) (Q : B → Type 0) → ((x : A) (y : B) → R x y → Q y) → (xs : List A) (ys : List B) → Pairwise R xs ys → AllByRecursion Q ys
each_second R Q f [] [] h = tt
each_second R Q f [] (y ∷ ys) h = absurd h
each_second R Q f (x ∷ xs) [] h = absurd h
each_second R Q f (x ∷ xs) (y ∷ ys) h = (f x y h.0, each_second R Q f xs ys h.1)

-- a table's entries are numbered below 2^64
abbrev IsNumbered : SeenTable → Type 0
IsNumbered u = AllByRecursion (λ (e : Entry). e.key.seqno < 2 ^ 64) u.entries

tables_numbered : (image : Image) (ls : Levels) (ts : SeenLevels) → AreTablesAt image ls ts → AllByRecursion (λ l. AllByRecursion (λ r. AllByRecursion IsNumbered r) l) ts
tables_numbered image = each_second (Pairwise (Pairwise (IsTableAt image))) (λ l. AllByRecursion (λ r. AllByRecursion IsNumbered r) l)
    (each_second (Pairwise (IsTableAt image)) (λ r. AllByRecursion IsNumbered r) (each_second (IsTableAt image) IsNumbered (λ t u at. each_weaker Fits (λ e. e.key.seqno < 2 ^ 64) (λ e fits. fits.seqno) u.entries at.reads.table.each)))

held_numbered : (n : ℕ) (ts : SeenLevels) → AllByRecursion (λ l. AllByRecursion (λ r. AllByRecursion IsNumbered r) l) ts → AllByRecursion (λ (e : Entry). e.key.seqno < 2 ^ 64) (held (placed_from n (shown_levels ts)))
held_numbered n [] h = tt
held_numbered n (runs ∷ levels) h =
    let P = λ (e : Entry). e.key.seqno < 2 ^ 64 in
    let tables = tables_of runs in
    let rest = placed_from (n + 1) (shown_levels levels) in
    subst (λ es. AllByRecursion P es) (sym (ap held (placed_cons n runs levels) ∙ held_both (placed_in n tables) rest ∙ ap (λ es. es ++ held rest) (entries_of_placed n tables)))
    (each_append P (flat_map (λ (u : SeenTable). u.entries) tables) (held rest) (each_flat P (λ (u : SeenTable). u.entries) tables (each_flat IsNumbered (λ r. r) runs h.0)) (held_numbered (n + 1) levels h.1))

numbers_fit : (es : List Entry) → AllByRecursion (λ e. e.key.seqno < 2 ^ 64) es → above es ≤ 2 ^ 64
numbers_fit [] h = omega arith
numbers_fit (e ∷ es) h = let a : e.key.seqno < 2 ^ 64 = h.0 in let b = numbers_fit es h.1 in omega (arith, a, b)

pub found_numbers : FoundNumbersFit
found_numbers image ts (Named id ls s) = numbers_fit (held (placed_of ts)) (held_numbered 0 ts (tables_numbered image ls ts s.tables))
found_numbers image ts (Nothing none good is) = subst (λ (us : SeenLevels). above (held (placed_of us)) ≤ 2 ^ 64) (sym is) (numbers_fit [] tt)

pub found_show : ShownAbove → FoundTablesShow
found_show shown image ts found stands = record { levels = ts; found = found; ordered = stands.ordered; single = stands.single; shows = sym (shown (placed_of ts) (2 ^ 64) (found_numbers image ts found)) }

-- ---- what a crash left

pub good_names : (image : Image) (ts : SeenLevels) → Finds image ts → HasGoodNames image
good_names image ts (Named id ls s) = s.names
good_names image ts (Nothing none good is) = good

each_any : {A : Type 0} (P : A → Type 0) → ((x : A) → P x) → (xs : List A) → AllByRecursion P xs
each_any P h [] = tt
each_any P h (x ∷ xs) = (h x, each_any P h xs)

module _ (w : World) (image : Image) (m : Map) (stands : StandsForMap image m) (begins : Begins image w) where
  fixed : (n : List ℕ) → IsFixed w n
  fixed n c may = (begins.may n c).0 may ∙ sym (begins.gives n)

  no_version : (c : Option (List ℕ)) → w.may (codes "version") c → c ≡ None
  no_version c may = (begins.may (codes "version") c).0 may ∙ (good_names image stands.levels stands.found).no_version

  in_tables : (n : List ℕ) (c : Option (List ℕ)) → kind_of n ≡ Refused → w.may n c → c ≡ None
  in_tables n c bad may = (begins.may n c).0 may ∙ (good_names image stands.levels stands.found).in_tables n bad

  pub settled : IsSettled w
  settled = record {
    current = fixed current_name;
    named = λ id ls named. record { current = fixed current_name; version = fixed (version_name id); tables = each_any _ (each_any _ (each_any _ (λ t. fixed (table_name t.id)))) ls; no_version = no_version; in_tables = in_tables };
    no_version = no_version;
    in_tables = in_tables;
  }

  pub stands_still : StandsForMap w.gives m
  stands_still = subst (λ (i : Image). StandsForMap i m) (sym (image_same image w.gives begins.gives)) stands
