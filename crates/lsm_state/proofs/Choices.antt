-- The version that a choice makes may be installed, and its tables are on the disk.
use Rattle.std.proofs.Common.{◌≡◌, Result, Ok, Err, IfOk, IfErr, IsSome, subst, inl, inr, ℕ, ◌+◌, ◌-◌, ◌<◌, ◌^◌, ◌||◌, Bool, true, false, List, [], ◌∷◌, ◌++◌, flat_map, Option, Some, None, eqb, refl, sym, ap, ap₂, ◌∙◌, arith}
use Rattle.std.proofs.lemmas.Bool.{eqb-true}
use Rattle.std.proofs.lemmas.List.Folds.{list_any-append}
use Rattle.std.specs.Option.{is_some}
use Rattle.std.specs.List.{AllByRecursion, list_any}
use Rattle.std.specs.List.Sorted.{IsPermutation}
use Rattle.lsm_below.specs.Each.{each_filter}
use Rattle.lsm_store.specs.World.{World}
use Rattle.lsm_tables.specs.Tables.{SeenTable}
use Rattle.lsm_model.specs.Steps.{among}
use Rattle.lsm_versions.specs.Levels.{SeenVersion, HasOwnIds, all_of, left_in, chosen_from}
use Rattle.lsm_versions.specs.Installs.{ChangesKeepTables}
use Rattle.lsm_versions.specs.TableLaws.{or_parts}
use Rattle.lsm_commit.specs.Stored.{IsStored, IsTableOnDisk, AreOnDisk}
use Rattle.lsm_commit.specs.Commits.{AreOthers}
use Rattle.lsm_below.specs.declared.error.Error.{Error}
use Rattle.lsm_below.specs.declared.error.Error.TheVariants.{OutOfMemory, Unrecoverable}
use Rattle.lsm_checks.specs.declared.choice.Kind.{Kind}
use Rattle.lsm_checks.specs.declared.choice.Kind.TheVariants.{Merge as AsMerge}
use Rattle.lsm_checks.specs.declared.choice.Why.{Why}
use Rattle.lsm_checks.specs.declared.choice.Why.TheVariants.{Hidden}
use Rattle.lsm_checks.specs.declared.input.Input.{Input}
use Rattle.lsm_checks.specs.Choices.{first_of, reasons_of, first_reason_of, AreThere}
use Rattle.lsm_compaction.specs.OpenMerges.{SeenOpenMerge, hides}
use Rattle.lsm_pick.specs.declared.choice.Choice.{Choice}
use Rattle.lsm_pick.specs.declared.choice.Choice.TheVariants.{DoNothing, Move, Merge, Drop}
use Rattle.lsm_pick.specs.declared.choice.ChooseError.{ChooseError}
use Rattle.lsm_pick.specs.declared.choice.ChooseError.TheVariants.{OutOfMemory as NoMemory, NotDisjoint, Busy, Refused}
use Rattle.lsm_state.specs.declared.compaction.Options.{Options}
use Rattle.lsm_state.specs.declared.compaction.Begun.{Begun}
use Rattle.lsm_state.specs.Core.{Core, versions_left, written_of}
use Rattle.lsm_state.specs.Kept.{IsKeptTree}
use Rattle.lsm_state.specs.Cleaning.{IsUnnamed}
use Rattle.lsm_state.specs.Settling.{MaySettle, HasItsTables}
use Rattle.lsm_state.specs.Compactions.{levels_of, hidden_in, reason_of, IsPossible, IsMovedTo, IsDroppedFrom, IsNotMoved, IsNotDropped, InstallsChoice, Does, BeginsChoice, BeginsCompaction, Relation, MayAnswer, error_of}
use Rattle.lsm_state.proofs.Installing.{each_permuted}
use Rattle.lsm_state.proofs.Replacing.{IsApart, parts_apart, each_with, tables_with, none_of_none, others_left, spared, covered, covered_by_none}
use Rattle.lsm_state.proofs.Writing.{below_now}

-- ---- a version of a run, and of what is left of the latest one

module _ (c : Core) (kept : IsKeptTree c) (certain : c.lost ≡ None) (ids : List ℕ) (run : List SeenTable) (v : SeenVersion) (same : IsPermutation (run ++ left_in ids (all_of (levels_of c))) (all_of v.levels)) where
  pub may_settle : (gone : List ℕ) → v.id ≡ c.history.latest.version.id + 1 → HasOwnIds (all_of v.levels) → (c.next_table < 2 ^ 64 - 1 → AllByRecursion (λ t. t.id < c.next_table) run) → AllByRecursion (IsApart (written_of c)) run
      → AreOthers gone (written_of c) → AreOthers gone (all_of v.levels) → AllByRecursion (λ t. IsUnnamed (all_of v.levels) t.id → among gone t.id ≡ true) (all_of (levels_of c)) → MaySettle v gone c
  may_settle gone id own below apart spares others covers = record {
    certain = certain;
    id = id;
    tables = tables_with c.flush c.history c.next_table kept.tables ids run v same c.seqno id own below apart;
    spares = spares;
    others = others;
    covers = covers;
  }

  pub has_tables : (w : World) → (IsStored w (versions_left c) (written_of c) → AreOnDisk w run) → HasItsTables w c v
  has_tables w disk stored = each_with c.flush c.history c.next_table kept.tables ids run v same (IsTableOnDisk w) (disk stored) stored.whole.0.tables

-- ---- moves

module _ (c : Core) (kept : IsKeptTree c) (certain : c.lost ≡ None) (law : ChangesKeepTables) (input : Input) (level : input.dest_level < 7) (v : SeenVersion) (made : IsMovedTo input c.history.latest.version v) where
  abbrev ids : List ℕ
  ids = input.table_ids.keys

  abbrev run : List SeenTable
  run = made.moves.run

  abbrev now : List SeenTable
  now = all_of (levels_of c)

  moved_same : IsPermutation (run ++ left_in ids now) (all_of v.levels)
  moved_same = law ids run input.dest_level (levels_of c) v.levels made.moves.next.levels (omega (arith, level, kept.laid.0.seven))

  -- what holds of all tables holds of those that move
  of_run : (P : SeenTable → Type 0) → AllByRecursion P now → AllByRecursion P run
  of_run P all = each_permuted P (chosen_from ids (levels_of c)) run made.moves.one.same (each_filter P (λ t. among ids t.id) now all)

  pub moved_settles : MaySettle v [] c
  moved_settles =
      may_settle c kept certain ids run v moved_same [] made.moves.next.id made.own_ids (λ lt. of_run (λ t. t.id < c.next_table) (below_now c.history c.flush c.next_table kept.tables lt))
      (of_run (IsApart (written_of c)) (parts_apart (written_of c) now kept.tables.own_ids)) (none_of_none (written_of c)) (none_of_none (all_of v.levels))
      (covered_by_none ids run c.history v made.moves.one.same moved_same)

  pub moved_on_disk : (w : World) → HasItsTables w c v
  moved_on_disk w = has_tables c kept certain ids run v moved_same w (λ stored. of_run (IsTableOnDisk w) stored.whole.0.tables)

-- ---- drops

module _ (c : Core) (kept : IsKeptTree c) (certain : c.lost ≡ None) (law : ChangesKeepTables) (ids : List ℕ) (there : AreThere (levels_of c) ids) (v : SeenVersion) (made : IsDroppedFrom ids c.history.latest.version v) where
  dropped_same : IsPermutation (left_in ids (all_of (levels_of c))) (all_of v.levels)
  dropped_same = law ids [] 0 (levels_of c) v.levels made.next.levels (omega (arith, kept.laid.0.seven))

  pub dropped_settles : MaySettle v ids c
  dropped_settles =
      may_settle c kept certain ids [] v dropped_same ids made.next.id made.own_ids (λ lt. tt) tt (spared ids c.flush c.history c.next_table kept.tables there)
      (others_left ids [] c.history v dropped_same tt) (covered ids [] c.history v dropped_same)

  pub dropped_on_disk : (w : World) → HasItsTables w c v
  dropped_on_disk w = has_tables c kept certain ids [] v dropped_same w (λ stored. tt)

-- ---- reasons

-- the tables that open merges work on, as one list
pub hides_is : (merges : List SeenOpenMerge) (i : ℕ) → among (flat_map (λ m. m.ids) merges) i ≡ hides merges i
hides_is [] i = refl
hides_is (m ∷ merges) i = list_any-append (λ j. eqb i j) m.ids (flat_map (λ n. n.ids) merges) ∙ ap (λ b. among m.ids i || b) (hides_is merges i)

same_any : (f g : ℕ → Bool) (ids : List ℕ) → ((i : ℕ) → f i ≡ g i) → list_any f ids ≡ list_any g ids
same_any f g [] h = refl
same_any f g (i ∷ ids) h = ap₂ (λ a b. a || b) (h i) (same_any f g ids h)

-- only which tables are hidden counts
abbrev others_of : List (Bool × Why) → List (Bool × Why)
others_of [] = []
others_of (x ∷ xs) = xs

pub reason_same : (kind : Kind) (ids : List ℕ) (to : ℕ) (some other : List ℕ) (levels : List (List (List SeenTable))) → ((i : ℕ) → among some i ≡ among other i) → first_reason_of kind ids to some levels ≡ first_reason_of kind ids to other levels
reason_same kind ids to some other levels h = ap (λ b. first_of ((b, Hidden) ∷ others_of (reasons_of kind ids to some levels))) (same_any (among some) (among other) ids h)

-- where no reason holds no table is hidden
none_in : (hidden ids : List ℕ) → list_any (among hidden) ids ≡ false → (i : ℕ) → among ids i ≡ true → among hidden i ≡ false
none_in hidden [] h i is = absurd (clash is)
  where
    clash : false ≡ true → ⊥
    clash e = cc e
none_in hidden (j ∷ ids) h i is = by_first (none_in hidden ids (or_parts (among hidden j) (list_any (among hidden) ids) h).1 i) (eqb i j) refl is
  where
    by_first : (among ids i ≡ true → among hidden i ≡ false) → (b : Bool) → eqb i j ≡ b → (b || among ids i) ≡ true → among hidden i ≡ false
    by_first others true e more = ap (among hidden) (eqb-true i j e) ∙ (or_parts (among hidden j) (list_any (among hidden) ids) h).0
    by_first others false e more = others more

pub none_hidden : (kind : Kind) (ids : List ℕ) (to : ℕ) (hidden : List ℕ) (levels : List (List (List SeenTable))) → first_reason_of kind ids to hidden levels ≡ None → (i : ℕ) → among ids i ≡ true → among hidden i ≡ false
none_hidden kind ids to hidden levels none = none_in hidden ids (by_case (list_any (among hidden) ids) refl)
  where
    by_case : (b : Bool) → list_any (among hidden) ids ≡ b → list_any (among hidden) ids ≡ false
    by_case false e = e
    by_case true e = absurd (some (ap (λ b. first_of ((b, Hidden) ∷ others_of (reasons_of kind ids to hidden levels))) (sym e) ∙ none))
      where
        some : ◌≡◌ {A = Option Why} (Some Hidden) None → ⊥
        some h = cc h

unfound : (IsMade : SeenVersion → Type 0) (IsUnmade : Error → Type 0) (w : ℕ) (c : Core) → InstallsChoice IsMade IsUnmade w (Err OutOfMemory) c c
unfound IsMade IsUnmade w c = record {
  ok = tt;
  settles = record { ok = tt; after = λ h. cc h; unknown = λ h. cc h; before = λ h. refl; store = λ h. inl refl; memory = λ h. inl refl };
  store = λ h. cc h;
  too_many_runs = λ h. cc h;
  numbered = λ h. cc h;
  out_of_numbers = λ h. cc h;
  only = inl (inl refl);
}

-- a merge that no reason declines
pub merge_possible : (input : Input) (c : Core) (r : Result (Option Why) Error) → IfOk r (λ why. why ≡ reason_of (Merge input) c) → IfOk r (λ why. why ≡ None → AreThere (levels_of c) input.table_ids.keys) → IfOk r (λ why. why ≡ None → IsPossible (Merge input) c)
merge_possible input c (Ok why) value there = λ none. (there none, λ i is. sym (hides_is c.merges.underway i) ∙ none_hidden AsMerge input.table_ids.keys input.dest_level (hidden_in c) (levels_of c) (sym value ∙ none) i is)
merge_possible input c (Err e) value there = tt

-- there was no memory to find a reason
no_memory : (choice : Choice) (o : Options) (c : Core) → (choice ≡ DoNothing → ⊥) → Does choice o (Err OutOfMemory) c c
no_memory DoNothing o c something = absurd (something refl)
no_memory (Move input) o c something = unfound (IsMovedTo input c.history.latest.version) (IsNotMoved input c.history.latest.version) o.mvcc_gc_watermark c
no_memory (Merge input) o c something = record { job = tt; ok = tt; err = refl; out_of_numbers = λ h. cc h; only = inl refl }
no_memory (Drop ids) o c something = unfound (IsDroppedFrom ids.keys c.history.latest.version) (IsNotDropped ids.keys c.history.latest.version) o.mvcc_gc_watermark c

pub refused_begins : (choice : Choice) (o : Options) (c : Core) → c.lost ≡ None → (choice ≡ DoNothing → ⊥) → BeginsChoice choice o (Err OutOfMemory) c c
refused_begins choice o c certain something = record {
  unrecoverable = (λ h. cc h, λ h. cc (h, certain));
  uncertain = λ h. refl;
  declines = λ why lost reason. (inr refl, refl);
  does = λ lost reason. no_memory choice o c something;
}

pub no_option : {A : Type 0} (o : Option A) → is_some o ≡ false → o ≡ None
no_option None h = refl
no_option (Some x) h = absurd (cc h)

-- what a strategy chose is done, or its refusal told
module _ (may_choose : Relation Choice) (may_refuse : Relation ChooseError) (o : Options) where
  no_strategy : (e : ChooseError) → ◌≡◌ {A = Result Begun Error} (Err (error_of e)) (Err Unrecoverable) → ⊥
  no_strategy NoMemory h = cc h
  no_strategy NotDisjoint h = cc h
  no_strategy Busy h = cc h
  no_strategy Refused h = cc h

  none_lost : (c : Core) → c.lost ≡ None → IsSome c.lost → ⊥
  none_lost c certain some = let z = subst IsSome certain some in absurd (cc z)

  pub begins_chosen : (chosen : Result Choice ChooseError) (r : Result Begun Error) (old new : Core) → old.lost ≡ None → IfOk chosen (MayAnswer may_choose old) → IfErr chosen (MayAnswer may_refuse old)
      → IfOk chosen (λ choice. BeginsChoice choice o r old new) → IfErr chosen (λ e. r ≡ Err (error_of e)) → IfErr chosen (λ e. new ≡ old) → BeginsCompaction may_choose may_refuse o r old new
  begins_chosen (Ok choice) r old new certain ok err begins refused same = record { unrecoverable = begins.unrecoverable; uncertain = begins.uncertain; chosen = λ _. inl (choice, ok, begins) }
  begins_chosen (Err e) r old new certain ok err begins refused same = record {
    unrecoverable = (λ u. absurd (no_strategy e (sym refused ∙ u)), λ some. absurd (none_lost old certain some));
    uncertain = λ some. same;
    chosen = λ _. inr (e, err, refused, same);
  }
