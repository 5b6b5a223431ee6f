-- What persisting a version leaves of what is stored.
use Rattle.std.proofs.Common.{◌≡◌, ◌≢◌, ◌⊎◌, inl, inr, ⊎_elim, ℕ, ◌<◌, ◌^◌, List, [], ◌∷◌, get_or, Option, Some, Result, Ok, Err, refl, sym, ap, ◌∙◌, subst, codes, arith}
use Rattle.std.specs.List.{AllByRecursion}
use Rattle.lsm_below.specs.declared.error.Error.{Error}
use Rattle.lsm_below.specs.declared.error.Error.TheVariants as error
use Rattle.lsm_below.specs.Members.{IsIn, each_in}
use Rattle.lsm_store.specs.World.{Image, World, LeavesOnly}
use Rattle.lsm_store.specs.Synced.{IsBeside, KeepsOthers}
use Rattle.lsm_store.specs.Moments.{weakened, same_or_not}
use Rattle.lsm_tables.specs.Tables.{SeenTable}
use Rattle.lsm_versions.specs.Levels.{SeenVersion, all_of, AreRuns}
use Rattle.lsm_manifest.specs.declared.kinds.NameKind.TheVariants.{Refused, Other}
use Rattle.lsm_manifest.specs.declared.persist.PersistError.{PersistError}
use Rattle.lsm_manifest.specs.declared.persist.PersistError.TheVariants as persisting
use Rattle.lsm_manifest.specs.Names.{current_name, version_name, table_name}
use Rattle.lsm_manifest.specs.Kinds.{kind_of}
use Rattle.lsm_manifest.specs.Spelling.{IsFileFrom}
use Rattle.lsm_manifest.specs.Versions.{named_levels, file_of}
use Rattle.lsm_manifest.specs.Persist.{naming, IsOldOrNew, IsPersisted, IsUncertain, KeepsRest, Persists, MayHaveLeft}
use Rattle.lsm_manifest.specs.Told.{Told, TellsPersist}
use Rattle.lsm_commit.specs.Stored.{AreOnDisk, IsFileOf, IsWhole, IsNaming, IsStored, HoldsOneOf, Leaves}
use Rattle.lsm_commit.specs.Commits.{Stores}
use Rattle.lsm_commit.proofs.Images.{Untouched, holds, tables_in, held_beside, on_beside, naming_beside, whole_beside}
use Rattle.lsm_commit.proofs.Removals.{AreApart, is_file, file_not_older, file_not_refused, file_untouched, version_spared}

-- the name is that of the version's file, or `current`
abbrev pub is_either : ℕ → List ℕ → Type 0
is_either id n = (n ≡ version_name id) ⊎ (n ≡ current_name)

clash_memory : ◌≡◌ {A = Error} error.OutOfMemory error.CommitUnknown → ⊥
clash_memory e = cc e

clash_store : ◌≡◌ {A = Error} error.Store error.CommitUnknown → ⊥
clash_store e = cc e

other_letters : get_or (codes "version") 0 0 ≡ get_or current_name 0 0 → ⊥
other_letters e = omega arith

-- neither is one that opening refuses
module _ (apart : AreApart) (plain : kind_of current_name ≡ Other) (id : ℕ) (small : id < 2 ^ 64) where
  pub either_not_refused : (n : List ℕ) → kind_of n ≡ Refused → is_either id n → ⊥
  either_not_refused n bad = ⊎_elim (λ e. file_not_refused apart id small n bad e) (λ e. let kind = sym plain ∙ (ap kind_of (sym e) ∙ bad) in absurd (cc kind))

  pub either_not_older : is_either id (codes "version") → ⊥
  either_not_older = ⊎_elim (λ e. file_not_older apart id small e) (λ e. other_letters (ap (λ (l : List ℕ). get_or l 0 0) e))

module _ (apart : AreApart) (no_table : (i : ℕ) → table_name i ≢ current_name) (plain : kind_of current_name ≡ Other) (old : World) (latest next : SeenVersion) (tables : List SeenTable) (small : next.id < 2 ^ 64) (runs : AreRuns next.levels)
    (reads : IsFileFrom (Some next.log_from) (named_levels next.levels) (file_of next)) (stored : IsStored old (latest ∷ []) tables) (other : next.id ≢ latest.id) (on_disk : AreOnDisk old (all_of next.levels)) where
  free_file : Untouched (is_file next.id) (latest ∷ []) tables
  free_file = file_untouched apart old next.id small (latest ∷ []) tables stored (λ e. other (sym e), tt)

  table_out : (i : ℕ) → is_either next.id (table_name i) → ⊥
  table_out i = ⊎_elim (λ e. apart.table_no_version i next.id e) (λ e. no_table i e)

  tables_out : (us : List SeenTable) → AllByRecursion (λ t. is_either next.id (table_name t.id) → ⊥) us
  tables_out [] = tt
  tables_out (u ∷ us) = (table_out u.id, tables_out us)

  latest_out : is_either next.id (version_name latest.id) → ⊥
  latest_out = ⊎_elim (λ e. free_file.files.0 e) (λ e. apart.version_not_current latest.id e)

  refused_out : (n : List ℕ) → kind_of n ≡ Refused → is_either next.id n → ⊥
  refused_out = either_not_refused apart plain next.id small

  older_out : is_either next.id (codes "version") → ⊥
  older_out = either_not_older apart plain next.id small

  out_file : (n : List ℕ) → (is_either next.id n → ⊥) → n ≢ version_name next.id
  out_file n out e = out (inl e)

  out_current : (n : List ℕ) → (is_either next.id n → ⊥) → n ≢ current_name
  out_current n out e = out (inr e)

  -- ---- images in it

  wider : (image : Image) → HoldsOneOf (latest ∷ []) image → HoldsOneOf (latest ∷ (next ∷ [])) image
  wider image has = (has.0, ⊎_elim (λ e. inl e) (λ none. absurd none) has.1, has.2, has.3)

  held_old : (image : Image) → ((n : List ℕ) → (is_file next.id n → ⊥) → old.may n (image n)) → HoldsOneOf (latest ∷ []) image
  held_old image has = held_beside (is_file next.id) old image has (latest ∷ []) tables stored free_file

  held_either : (image : Image) → IsOldOrNew next.id (file_of next) old image → HoldsOneOf (latest ∷ (next ∷ [])) image
  held_either image is = ⊎_elim
      (λ as_before. wider image (held_old image (λ n out. ⊎_elim (λ (e : n ≡ current_name). subst (λ m. old.may m (image m)) (sym e) as_before) (λ differs. is.elsewhere n out differs) (same_or_not n current_name))))
      (λ named.
      let held = holds image next (file_of next) (Some next.log_from) small refl reads runs named.0 named.1 (tables_in (is_either next.id) old image has (all_of next.levels) on_disk (tables_out (all_of next.levels)))
      (record { no_version = stored.no_version _ (has (codes "version") older_out); in_tables = λ n bad. stored.in_tables n _ bad (has n (refused_out n bad)) }) in
      (next, inr (inl refl), held.0, held.1)) is.named
    where
      has : (n : List ℕ) → (is_either next.id n → ⊥) → old.may n (image n)
      has n out = is.elsewhere n (out_file n out) (out_current n out)

  widened : (new : World) → Leaves old new (latest ∷ []) → Leaves old new (latest ∷ (next ∷ []))
  widened new leaves = weakened old new (HoldsOneOf (latest ∷ [])) (HoldsOneOf (latest ∷ (next ∷ []))) leaves wider

  left_either : (new : World) → LeavesOnly old new (IsOldOrNew next.id (file_of next) old) → Leaves old new (latest ∷ (next ∷ []))
  left_either new leaves = weakened old new (IsOldOrNew next.id (file_of next) old) (HoldsOneOf (latest ∷ (next ∷ []))) leaves held_either

  -- ---- what is stored after it

  module _ (new : World) where
    module _ (rest : KeepsRest next.id old new) (file : (c : Option (List ℕ)) → new.may (version_name next.id) c → c ≡ Some (file_of next)) where
      still : (n : List ℕ) (c : Option (List ℕ)) → (is_either next.id n → ⊥) → new.may n c → old.may n c
      still n c out may = (rest.may n c (out_file n out) (out_current n out)).0 may

      next_file : IsFileOf new next (file_of next)
      next_file = record { from = Some next.log_from; log_from = refl; reads = reads; on_disk = file }

      next_named : (c : Option (List ℕ)) → c ≡ Some (naming next.id (file_of next)) → IsNaming new next c
      next_named c is = record { bytes = file_of next; file = next_file; named = is }

      next_whole : IsWhole new next
      next_whole = record { id = small; bytes = file_of next; file = next_file; runs = runs; tables = on_beside (is_either next.id) old new still (all_of next.levels) on_disk (tables_out (all_of next.levels)) }

      latest_whole : IsWhole new latest
      latest_whole = whole_beside (is_either next.id) old new still latest stored.whole.0 latest_out (tables_out (all_of latest.levels))

      unnamed_on : AreOnDisk new tables
      unnamed_on = on_beside (is_either next.id) old new still tables stored.written (tables_out tables)

      pub next_stored : ((c : Option (List ℕ)) → new.may current_name c → c ≡ Some (naming next.id (file_of next))) → IsStored new (next ∷ []) tables
      next_stored current = record {
        current = λ c may. (next, inl refl, next_named c (current c may));
        whole = (next_whole, tt);
        written = unnamed_on;
        no_version = λ c may. stored.no_version c (still (codes "version") c older_out may);
        in_tables = λ n c bad may. stored.in_tables n c bad (still n c (refused_out n bad) may);
      }

      latest_named : (c : Option (List ℕ)) → (v : SeenVersion) × IsIn v (latest ∷ []) × IsNaming old v c → (v : SeenVersion) × IsIn v (latest ∷ (next ∷ [])) × IsNaming new v c
      latest_named c named = (
        named.0,
        ⊎_elim (λ e. inl e) (λ none. absurd none) named.1,
        naming_beside (is_either next.id) old new still named.0 c named.2 (each_in (λ v. is_either next.id (version_name v.id) → ⊥) (latest ∷ []) named.0 (latest_out, tt) named.1),
      )

      pub both_stored : ((c : Option (List ℕ)) → new.may current_name c → old.may current_name c ⊎ (c ≡ Some (naming next.id (file_of next)))) → IsStored new (latest ∷ (next ∷ [])) tables
      both_stored current = record {
        current = λ c may. ⊎_elim (λ before. latest_named c (stored.current c before)) (λ e. (next, inr (inl refl), next_named c e)) (current c may);
        whole = (latest_whole, (next_whole, tt));
        written = unnamed_on;
        no_version = λ c may. stored.no_version c (still (codes "version") c older_out may);
        in_tables = λ n c bad may. stored.in_tables n c bad (still n c (refused_out n bad) may);
      }

    -- ---- by what it answers

    of_ok : (u : Unit {0}) → IsPersisted next.id (file_of next) old new → LeavesOnly old new (IsOldOrNew next.id (file_of next) old) → Stores latest next tables old new (Ok u)
    of_ok u is leaves = record {
      ok = next_stored is.rest (λ c may. (is.version c).0 may) (λ c may. (is.current c).0 may);
      committed = record { file = next_file is.rest (λ c may. (is.version c).0 may); current = λ c may. (is.current c).0 may };
      unknown = λ e. absurd (cc e);
      doubted = λ e. absurd (cc e);
      refused = tt;
      leaves = left_either new leaves;
    }

    of_unknown : (e : Error) → e ≡ error.CommitUnknown → IsUncertain next.id (file_of next) old new → LeavesOnly old new (IsOldOrNew next.id (file_of next) old) → Stores latest next tables old new (Err e)
    of_unknown e is_unknown is leaves = record {
      ok = tt;
      committed = tt;
      unknown = λ _. both_stored is.rest (λ c may. (is.version c).0 may) (λ c may. (is.current c).0 may);
      doubted = λ _. next_file is.rest (λ c may. (is.version c).0 may);
      refused = inl (ap Err is_unknown);
      leaves = left_either new leaves;
    }

    of_refused : (e : Error) → (e ≡ error.CommitUnknown → ⊥) → KeepsOthers (version_name next.id) old new → LeavesOnly old new (IsBeside (version_name next.id) old) → Stores latest next tables old new (Err e)
    of_refused e certain keeps leaves =
        let both = version_spared apart old new next.id small keeps leaves (latest ∷ []) tables stored (λ same. other (sym same), tt) in
        record {
          ok = tt;
          committed = tt;
          unknown = λ is. absurd (certain (err_is e is));
          doubted = λ is. absurd (certain (err_is e is));
          refused = inr both;
          leaves = widened new both.1;
        }
      where
        err_is : (x : Error) → ◌≡◌ {A = Result Unit Error} (Err x) (Err error.CommitUnknown) → x ≡ error.CommitUnknown
        err_is x is = cc is

    -- the two facts of a refusal are of one cause
    of_err : (e : Error) (p q : PersistError) → TellsPersist p e → TellsPersist q e → Persists {T = Unit {0}} next.id (file_of next) old new (Err p) → MayHaveLeft {T = Unit {0}} next.id (file_of next) old new (Err q) → Stores latest next tables old new (Err e)
    of_err e persisting.CommitUnknown persisting.CommitUnknown a b is left = of_unknown e a is left
    of_err e persisting.CommitUnknown persisting.OutOfMemory a b is left = absurd (clash_memory (sym b ∙ a))
    of_err e persisting.CommitUnknown persisting.Store a b is left = absurd (clash_store (sym b ∙ a))
    of_err e persisting.OutOfMemory persisting.CommitUnknown a b is left = absurd (clash_memory (sym a ∙ b))
    of_err e persisting.OutOfMemory persisting.OutOfMemory a b is left = of_refused e (λ u. clash_memory (sym a ∙ u)) is left
    of_err e persisting.OutOfMemory persisting.Store a b is left = of_refused e (λ u. clash_memory (sym a ∙ u)) is left
    of_err e persisting.Store persisting.CommitUnknown a b is left = absurd (clash_store (sym a ∙ b))
    of_err e persisting.Store persisting.OutOfMemory a b is left = of_refused e (λ u. clash_store (sym a ∙ u)) is left
    of_err e persisting.Store persisting.Store a b is left = of_refused e (λ u. clash_store (sym a ∙ u)) is left

    pub committed : (r : Result Unit Error) → Told TellsPersist (Persists {T = Unit {0}} next.id (file_of next) old new) r → Told TellsPersist (MayHaveLeft {T = Unit {0}} next.id (file_of next) old new) r → Stores latest next tables old new r
    committed (Ok u) is left = of_ok u is left
    committed (Err e) is left = of_err e is.0 left.0 is.1 left.1 is.2 left.2
