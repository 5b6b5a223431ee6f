-- What removals leave, where no version counts on the names.
use Rattle.std.proofs.Common.{◌≡◌, ◌≢◌, ◌⊎◌, inl, inr, ⊎_elim, ℕ, ◌+◌, ◌≤◌, ◌<◌, ◌^◌, Bool, true, false, ◌||◌, eqb, List, [], ◌∷◌, ◌++◌, map, Option, Some, None, Result, refl, sym, ap, ◌∙◌, codes, arith}
use Rattle.std.specs.Iterator.{Yields}
use Rattle.std.specs.List.{AllByRecursion}
use Rattle.std.specs.Map.Iter.{TakesFirst}
use Rattle.std.proofs.lemmas.Bool.{eqb-true, eq-eqb}
use Rattle.std.proofs.lemmas.Bool.Decides.{nat_tests}
use Rattle.std.proofs.lemmas.Map.Iter.{rest_more, rest_so_far}
use Rattle.lsm_below.specs.Each.{each_both, each_weaker}
use Rattle.lsm_store.specs.World.{Image, World, OldOr, IsImage, Changes, LeavesOnly}
use Rattle.lsm_store.specs.Synced.{IsBeside, KeepsOthers}
use Rattle.lsm_store.specs.Moments.{started, called, joined, same_or_not}
use Rattle.lsm_store.specs.declared.store.StoreError.{StoreError}
use Rattle.lsm_tables.specs.Tables.{SeenTable}
use Rattle.lsm_model.specs.Steps.{among}
use Rattle.lsm_versions.specs.Levels.{SeenVersion, all_of}
use Rattle.lsm_versions.specs.TableLaws.{or_none, among_append}
use Rattle.lsm_manifest.specs.declared.kinds.NameKind.TheVariants.{VersionFile, Refused}
use Rattle.lsm_manifest.specs.Names.{current_name, version_name, table_name}
use Rattle.lsm_manifest.specs.Kinds.{kind_of}
use Rattle.lsm_commit.specs.Stored.{Keeps, IsWhole, IsStored, HoldsOneOf}
use Rattle.lsm_commit.specs.Commits.{SparesStored, IsNoneOf, AreOthers, SparesTables}
use Rattle.lsm_commit.specs.Writing.{KeepsStored}
use Rattle.lsm_commit.specs.Foreign.{Passes, passes_still}
use Rattle.lsm_commit.proofs.Images.{Untouched, spared, left_now}
use Rattle.lsm_commit.proofs.Keeping.{keeps_none, keeps_more}

-- what is asked of names
pub record AreApart : Type 0 where
  pub versions : (i j : ℕ) → i < 2 ^ 64 → j < 2 ^ 64 → version_name i ≡ version_name j → i ≡ j
  pub table_no_version : (i j : ℕ) → table_name i ≢ version_name j
  pub version_not_current : (i : ℕ) → version_name i ≢ current_name
  pub no_older : (i : ℕ) → i < 2 ^ 64 → version_name i ≢ codes "version"
  pub version_kind : (i : ℕ) → i < 2 ^ 64 → kind_of (version_name i) ≡ VersionFile

-- the name is that of this version's file
abbrev pub is_file : ℕ → List ℕ → Type 0
is_file id n = n ≡ version_name id

-- it is none that opening refuses
pub file_not_older : AreApart → (id : ℕ) → id < 2 ^ 64 → is_file id (codes "version") → ⊥
file_not_older apart id small e = apart.no_older id small (sym e)

pub file_not_refused : AreApart → (id : ℕ) → id < 2 ^ 64 → (n : List ℕ) → kind_of n ≡ Refused → is_file id n → ⊥
file_not_refused apart id small n refused e = let kind = sym (apart.version_kind id small) ∙ (ap kind_of (sym e) ∙ refused) in absurd (cc kind)

tables_free : AreApart → (id : ℕ) (tables : List SeenTable) → AllByRecursion (λ t. is_file id (table_name t.id) → ⊥) tables
tables_free apart id [] = tt
tables_free apart id (t ∷ tables) = (apart.table_no_version t.id id, tables_free apart id tables)

named_free : AreApart → (id : ℕ) (versions : List SeenVersion) → AllByRecursion (λ v. AllByRecursion (λ t. is_file id (table_name t.id) → ⊥) (all_of v.levels)) versions
named_free apart id [] = tt
named_free apart id (v ∷ versions) = (tables_free apart id (all_of v.levels), named_free apart id versions)

pub file_untouched : AreApart → (w : World) (id : ℕ) → id < 2 ^ 64 → (versions : List SeenVersion) (tables : List SeenTable) → IsStored w versions tables → AllByRecursion (λ v. v.id ≢ id) versions → Untouched (is_file id) versions tables
file_untouched apart w id small versions tables stored other = record {
  current = λ e. apart.version_not_current id (sym e);
  files = each_both (IsWhole w) (λ v. v.id ≢ id) (λ v. is_file id (version_name v.id) → ⊥) (λ v whole differs e. differs (apart.versions v.id id whole.id small e)) versions stored.whole other;
  named = named_free apart id versions;
  unnamed = tables_free apart id tables;
  no_version = file_not_older apart id small;
  in_tables = file_not_refused apart id small;
}

-- a call that changes the file of a version with another id
pub version_spared : AreApart → (old new : World) (id : ℕ) → id < 2 ^ 64 → KeepsOthers (version_name id) old new → LeavesOnly old new (IsBeside (version_name id) old) → SparesStored id old new
version_spared apart old new id small keeps leaves versions tables stored other =
    spared (is_file id) old new (IsBeside (version_name id) old) (λ n c out may. (keeps.may n c out).0 may) leaves (λ image has. has) versions tables stored (file_untouched apart old id small versions tables stored other)

-- ---- a name that is removed

pub left_beside : {T : Type 0} (name : List ℕ) (old new : World) (r : Result T StoreError) → ((image : Image) → old.since old.moment image → IsImage old.may image) → Changes name (OldOr (old.may name) None) (OldOr (old.may name) None) None old new r → LeavesOnly old new (IsBeside name old)
left_beside name old new r only call = called old old new (IsBeside name old) name (OldOr (old.may name) None) (OldOr (old.may name) None) None r (started old (IsBeside name old) (λ image left n out. only image left n)) call (λ image at n out. (at n).elsewhere out)

-- ---- tables one by one

-- beside the files of these tables nothing has changed, and what is stored is spared
pub record KeepsRest (tells : Type 0) (ids : List ℕ) (old new : World) : Type 0 where
  pub keeps : tells → Keeps (IsNoneOf ids) old new
  pub stored : tells → SparesTables ids old new
  pub passes : tells → Passes old new
  pub failures : new.failures ≡ old.failures

pub rest_none : (tells : Type 0) (ids : List ℕ) (w : World) → (tells → (image : Image) → w.since w.moment image → IsImage w.may image) → KeepsRest tells ids w w
rest_none tells ids w only = record {
  keeps = λ s. keeps_none (IsNoneOf ids) w;
  stored = λ s versions tables stored named unnamed. (stored, left_now w versions tables (only s) stored);
  passes = λ s. passes_still w (only s);
  failures = refl;
}

module _ (ids : List ℕ) (id : ℕ) (is : among ids id ≡ true) (old mid new : World) where
  pub rest_kept : Keeps (IsNoneOf ids) old mid → KeepsOthers (table_name id) mid new → Keeps (IsNoneOf ids) old new
  rest_kept so_far keeps = keeps_more (IsNoneOf ids) (table_name id) (λ n out. out id is) old mid new so_far keeps

  pub rest_spared : SparesTables ids old mid → SparesTables ids mid new → SparesTables ids old new
  rest_spared so_far more versions tables stored named unnamed =
      let first = so_far versions tables stored named unnamed in
      let second = more versions tables first.0 named unnamed in
      (second.0, joined old mid new (HoldsOneOf versions) (HoldsOneOf versions) (HoldsOneOf versions) first.1 second.1 (λ image has. has) (λ image has. has))

-- an absent name stays so where another one is made absent
pub absent_after : (name : List ℕ) (old new : World) → KeepsOthers name old new → new.gives name ≡ None → (n : List ℕ) → old.gives n ≡ None → new.gives n ≡ None
absent_after name old new keeps gone n was = ⊎_elim (λ (e : n ≡ name). ap new.gives e ∙ gone) (λ differs. keeps.gives n differs ∙ was) (same_or_not n name)

-- one of two tests
either : (a b : Bool) → (a || b) ≡ true → (a ≡ true) ⊎ (b ≡ true)
either true b is = inl refl
either false b is = inr is

pub gone_more : {A : Type 0} (f : A → ℕ) (xs : List A) (x : A) (mid new : World) → KeepsOthers (table_name (f x)) mid new → new.gives (table_name (f x)) ≡ None → ((i : ℕ) → among (map f xs) i ≡ true → mid.gives (table_name i) ≡ None)
    → (i : ℕ) → among (map f (xs ++ x ∷ [])) i ≡ true → new.gives (table_name i) ≡ None
gone_more f xs x mid new keeps gone so_far i is = ⊎_elim (λ early. absent_after (table_name (f x)) mid new keeps gone (table_name i) (so_far i early))
    (λ now. ap (λ j. new.gives (table_name j)) (eqb-true i (f x) (sym (or_none (eqb i (f x))) ∙ now)) ∙ gone) (either (among (map f xs) i) (among (map f (x ∷ [])) i) (sym (among_append f xs (x ∷ []) i) ∙ is))

among_behind : (front behind : List ℕ) (i : ℕ) → among (front ++ i ∷ behind) i ≡ true
among_behind [] behind i = ap (λ b. b || among behind i) (eq-eqb i i refl)
among_behind (x ∷ front) behind i = elim (eqb i x) as (λ b. (b || among (front ++ i ∷ behind) i) ≡ true) [ true ↦ refl | false ↦ among_behind front behind i ]

-- ---- tables of consecutive ids

not_one : (id first i : ℕ) → first ≤ id → i < first → (eqb i id || false) ≡ false
not_one id first i le lt = or_none (eqb i id) ∙ grind (arith, nat_tests)

below_others : (id first : ℕ) → first ≤ id → (tables : List SeenTable) → AllByRecursion (λ t. t.id < first) tables → AreOthers (id ∷ []) tables
below_others id first le tables = each_weaker (λ t. t.id < first) (λ t. among (id ∷ []) t.id ≡ false) (λ t lt. not_one id first t.id le lt) tables

pub removed_keeps : (id first : ℕ) (old new : World) → first ≤ id → SparesTables (id ∷ []) old new → KeepsStored first old new
removed_keeps id first old new le spares versions written stored below fresh =
    spares versions written stored (each_weaker (λ v. AllByRecursion (λ t. t.id < first) (all_of v.levels)) (λ v. AreOthers (id ∷ []) (all_of v.levels)) (λ v b. below_others id first le (all_of v.levels) b) versions below) (below_others id first le written fresh)

pub stored_more : (first : ℕ) (old mid new : World) → KeepsStored first old mid → KeepsStored first mid new → KeepsStored first old new
stored_more first old mid new so_far more versions written stored below fresh =
    let one = so_far versions written stored below fresh in
    let two = more versions written one.0 below fresh in
    (two.0, joined old mid new (HoldsOneOf versions) (HoldsOneOf versions) (HoldsOneOf versions) one.1 two.1 (λ image has. has) (λ image has. has))

pub one_among : (id : ℕ) → among (id ∷ []) id ≡ true
one_among id = among_behind [] [] id

pub none_stored : (first : ℕ) (w : World) → ((image : Image) → w.since w.moment image → IsImage w.may image) → KeepsStored first w w
none_stored first w only versions written stored below fresh = (stored, left_now w versions written only stored)

pub written_gone : (first id : ℕ) (mid new : World) → KeepsOthers (table_name id) mid new → new.gives (table_name id) ≡ None → ((i : ℕ) → first ≤ i → i < id → mid.gives (table_name i) ≡ None) → (i : ℕ) → first ≤ i → i < id + 1 → new.gives (table_name i) ≡ None
written_gone first id mid new keeps gone so_far i le lt = by_test (eqb i id) refl
  where
    by_test : (b : Bool) → eqb i id ≡ b → new.gives (table_name i) ≡ None
    by_test true e = ap (λ j. new.gives (table_name j)) (eqb-true i id e) ∙ gone
    by_test false e = absent_after (table_name id) mid new keeps gone (table_name i) (so_far i le (less e))
      where
        less : eqb i id ≡ false → i < id
        less h = grind (arith, nat_tests)

-- what a loop over ids takes is one of them
pub among_taken : {A : Type 0} (f : A → ℕ) (ids s t u : List ℕ) (xs : List A) (r : Option A) (x : A) → s ≡ ids → Yields (TakesFirst f) s xs t → r ≡ Some x → TakesFirst f t r u → among ids (f x) ≡ true
among_taken f ids s t u xs r x start so_far is step =
    let all = sym start ∙ rest_so_far f xs s t so_far ∙ ap (λ l. map f xs ++ l) (rest_more f t u r x is step) in
    ap (λ l. among l (f x)) all ∙ among_behind (map f xs) u (f x)
