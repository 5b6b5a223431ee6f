-- An opening, from its two parts.
use Rattle.std.proofs.Common.{◌≡◌, inl, ℕ, Bool, true, false, List, None, Result, Ok, Err, map, codes, refl, sym, ap, subst, ◌∙◌}
use Rattle.std.specs.Prelude.{IsSome, OnOk, IfOk}
use Rattle.std.specs.String.{string_bytes}
use Rattle.std.specs.declared.string.String.{String}
use Rattle.std.specs.declared.alloc.Global.{Global}
use Rattle.std.proofs.lemmas.Result.{on_ok_weaker, IfOk-weaker}
use Rattle.lsm_below.specs.Numbers.{PlainNumbersAreRead}
use Rattle.lsm_below.specs.declared.error.Error.{Error}
use Rattle.lsm_below.specs.declared.error.Error.TheVariants.{CommitUnknown}
use Rattle.lsm_store.specs.World.{Image, World, Lists, Same, Narrows, IsOnDisk, LeavesOnly}
use Rattle.lsm_store.specs.Moments.{narrows_on, narrows_same, weakened, image_same}
use Rattle.lsm_versions.specs.Levels.{Levels as SeenLevels, SeenVersion}
use Rattle.lsm_manifest.specs.declared.fault.Fault.TheVariants.{InvalidVersion}
use Rattle.lsm_manifest.specs.declared.fault.OpenError.{OpenError}
use Rattle.lsm_manifest.specs.declared.fault.OpenError.TheVariants as opening
use Rattle.lsm_manifest.specs.declared.opening.Opened.{Opened}
use Rattle.lsm_manifest.specs.declared.found.Found.{Found}
use Rattle.lsm_manifest.specs.Kinds.{is_orphan}
use Rattle.lsm_manifest.specs.Names.{current_name}
use Rattle.lsm_manifest.specs.Spelling.{ids_of}
use Rattle.lsm_manifest.specs.Recovery.{Levels, IsNamed, StoreOnly}
use Rattle.lsm_manifest.specs.Told.{TellsOpen, fault_is_known}
use Rattle.lsm_manifest.specs.Standing.{StandsFor, HasSmallNumbers}
use Rattle.lsm_manifest.specs.Persist.{IsOldOrNew}
use Rattle.lsm_manifest.specs.Versions.{file_of, first_version}
use Rattle.lsm_manifest.specs.Clearing.{IsCleared, IsSettledFirst, Clears, Removes}
use Rattle.lsm_manifest.specs.Opening.{IsFound, ChecksFiles, OpensFiles, OpensNew, OpensAs, OnlyFault, KeepsFiles, IsUnnamed, ReadsFrom, IsOldOrBegun, Opens, LeavesStanding}
use Rattle.lsm_manifest.specs.Looking.{FindsIn, IsFoundIn, Older, BadFiles, BadNew, LooksInto, NoFault, orphan_of, ClearsFor, FinishesIn}
use Rattle.lsm_manifest.proofs.OpeningLemmas.{Only, some_not_none, named_there, not_opened, keeps_any, orphans_are, old_or_new, first_named_on, new_moment_on, old_or_begun, begun_behind, listed_on}
use Rattle.lsm_manifest.proofs.ClearingLemmas.{cleared_none, cleared_narrowed, cleared_behind, settled_narrowed, settled_behind, on_disk_behind, removes_behind}
use Rattle.lsm_manifest.proofs.Takes.{ImagesAreFirst, stands_opens}
use Rattle.lsm_manifest.proofs.Recovering.{named_so}
use Rattle.lsm_manifest.proofs.Pins.{current_stays, pinned_stands, pinned_reads}

-- ---- refused before anything is changed

-- a look commits nothing
pub look_is_sure : (image : Image) (why : OpenError) (e : Error) → LooksInto image (Err why) → TellsOpen why e → e ≡ CommitUnknown → ⊥
look_is_sure image opening.OutOfMemory e looks is h = let z = sym is ∙ h in cc z
look_is_sure image opening.Store e looks is h = let z = sym is ∙ h in cc z
look_is_sure image opening.CommitUnknown e looks is h = looks
look_is_sure image (opening.Fault f) e looks is h = fault_is_known f e is h

refused_version : (image : Image) (e : OpenError) → LooksInto image (Err e) → IsSome (image (codes "version")) → OnlyFault {T = Opened} (InvalidVersion 1) (Err e)
refused_version image opening.OutOfMemory h there = tt
refused_version image opening.Store h there = tt
refused_version image opening.CommitUnknown h there = h
refused_version image (opening.Fault f) (Older some is) there = is
refused_version image (opening.Fault f) (BadFiles none some bad) there = absurd (some_not_none _ there none)
refused_version image (opening.Fault f) (BadNew n none absent kind some is) there = absurd (some_not_none _ there none)

refused_opens : (image : Image) (e : OpenError) → LooksInto image (Err e) → image (codes "version") ≡ None → IsSome (image current_name) → OpensFiles image (Err e)
refused_opens image opening.OutOfMemory h none there = tt
refused_opens image opening.Store h none there = tt
refused_opens image opening.CommitUnknown h none there = h
refused_opens image (opening.Fault f) (Older some is) none there = absurd (some_not_none _ some none)
refused_opens image (opening.Fault f) (BadFiles free some bad) none there = bad
refused_opens image (opening.Fault f) (BadNew n free gone kind some is) none there = absurd (some_not_none _ there gone)

refused_new : (first mid : World) (e : OpenError) → LooksInto first.gives (Err e) → first.gives (codes "version") ≡ None → first.gives current_name ≡ None → OpensNew first mid (Err e)
refused_new first mid opening.OutOfMemory h none absent = tt
refused_new first mid opening.Store h none absent = tt
refused_new first mid opening.CommitUnknown h none absent = tt
refused_new first mid (opening.Fault f) (Older some is) none absent = absurd (some_not_none _ some none)
refused_new first mid (opening.Fault f) (BadFiles free some bad) none absent = absurd (some_not_none _ some absent)
refused_new first mid (opening.Fault f) (BadNew n free gone kind some is) none absent = (is, (n, kind, some))

pub refused : ImagesAreFirst → (first mid : World) (e : OpenError) → Same first mid → LooksInto first.gives (Err e) → Opens first mid (Err e)
refused once first mid e same h = record {
  version = refused_version first.gives e h;
  opens = refused_opens first.gives e h;
  from = λ there. tt;
  takes = λ id ls ts stands small. stands_opens once first.gives id ls ts (Err e) stands small (refused_opens first.gives e h stands.names.no_version (named_there first.gives id ls stands.named));
  fresh = refused_new first mid e h;
  removes = λ id ls named. tt;
  settles = λ there. tt;
  keeps = keeps_any first mid e same;
  unnamed = λ none. same;
  older = λ there. same;
}

-- ---- what a crash may leave

leaves : PlainNumbersAreRead → (first new : World) → ((id : ℕ) (ls : Levels) → IsNamed first.gives id ls → LeavesOnly first new (IsCleared (is_orphan id (ids_of ls)) first)) → ((id : ℕ) (ls : Levels) → IsNamed first.gives id ls → LeavesOnly first new (IsSettledFirst (is_orphan id (ids_of ls)) first)) → (first.gives current_name ≡ None → LeavesOnly first new (IsOldOrNew 0 (file_of first_version) first)) → (first.gives current_name ≡ None → LeavesOnly first new (IsOldOrBegun first)) → LeavesStanding first new
leaves read first new any settled fresh begun = record {
  any_moment = any;
  settled_first = settled;
  stands = λ id ls ts stands pin. weakened first new (IsCleared (is_orphan id (ids_of ls)) first) (λ image. StandsFor image id ls ts) (any id ls stands.named) (λ image left. pinned_stands read first id ls ts image stands pin left);
  reads = λ v reads pin. weakened first new (IsCleared (is_orphan v.id (ids_of reads.layout)) first) (λ image. ReadsFrom image v) (any v.id reads.layout (named_so first.gives v.id reads.from reads.layout reads.named)) (λ image left. pinned_reads first v image reads pin left);
  new_moment = fresh;
  new_settled = begun;
}

-- no image is added
pub leaves_narrowed : PlainNumbersAreRead → (first mid : World) → Only first → Narrows first mid → LeavesStanding first mid
leaves_narrowed read first mid only narrows = leaves read first mid (λ id ls named. cleared_narrowed (is_orphan id (ids_of ls)) first mid only narrows) (λ id ls named. settled_narrowed (is_orphan id (ids_of ls)) first mid only narrows) (λ absent. narrows_on first first mid (IsOldOrNew 0 (file_of first_version) first) (old_or_new first only) narrows) (λ absent. narrows_on first first mid (IsOldOrBegun first) (old_or_begun first only) narrows)

-- nothing has changed
pub leaves_same : PlainNumbersAreRead → (first mid : World) → Only first → Same first mid → LeavesStanding first mid
leaves_same read first mid only same = leaves_narrowed read first mid only (narrows_same first mid same)

-- ---- what was found is opened

-- found in `first`, and settled in `mid`
module _ (first mid new : World) (f : Found) (only : Only first) (looks : IsFoundIn first.gives f) (narrows : Narrows first mid) where
  fresh_moment : LeavesOnly mid new (IsOldOrNew 0 (file_of first_version) mid) → LeavesOnly first new (IsOldOrNew 0 (file_of first_version) first)
  fresh_moment after = new_moment_on first mid new only narrows after

  -- the orphans beside what was found
  orphans : IsFound first.gives f.opened.version.id f.opened.version.levels f.opened.next_table_id f.ids.items → (id : ℕ) (ls : Levels) → IsNamed first.gives id ls → orphan_of f ≡ is_orphan id (ids_of ls)
  orphans found id ls named = orphans_are first.gives f.opened.version.id f.opened.version.levels f.opened.next_table_id f.ids.items id ls f.opened.version.id f.ids.items refl refl found named

  leaves_in : PlainNumbersAreRead → ((n : List ℕ) → IsOnDisk first mid n) → (r : Result Opened OpenError) (b : Bool) → FindsIn b first.gives f → FinishesIn b f mid new r → LeavesStanding first new
  leaves_in read settled r true finds done =
      let fin = done (ap (λ (o : Opened). o.version) finds.1) in
      leaves read first new (λ id ls named. absurd (some_not_none _ (named_there first.gives id ls named) finds.0)) (λ id ls named. absurd (some_not_none _ (named_there first.gives id ls named) finds.0)) (λ absent. fresh_moment fin.any_moment) (λ absent. begun_behind first mid new only narrows settled fin.any_moment)
  leaves_in read settled r false found done =
      leaves read first new
      (λ id ls named. cleared_behind (is_orphan id (ids_of ls)) first mid new only narrows (subst (λ (o : List ℕ → Bool). LeavesOnly mid new (IsCleared o mid)) (orphans found id ls named) done.any_moment))
      (λ id ls named. settled_behind (is_orphan id (ids_of ls)) first mid new only narrows settled (subst (λ (o : List ℕ → Bool). LeavesOnly mid new (IsCleared o mid)) (orphans found id ls named) done.any_moment))
      (λ absent. absurd (some_not_none _ (named_there first.gives f.opened.version.id found.layout found.named) absent))
      (λ absent. absurd (some_not_none _ (named_there first.gives f.opened.version.id found.layout found.named) absent))

  opens_in : (r : Result Opened OpenError) (b : Bool) → FindsIn b first.gives f → FinishesIn b f mid new r → IfOk r (λ o. o ≡ f.opened) → IsSome (first.gives current_name) → OpensFiles first.gives r
  opens_in r true finds done is there = absurd (some_not_none _ there finds.0)
  opens_in (Ok o) false found done is there = subst (λ (p : Opened). OpensFiles first.gives (Ok p)) (sym is) (f.ids.items, found)
  opens_in (Err e) false found done is there = not_opened first.gives e done.only

  new_in : (r : Result Opened OpenError) (b : Bool) → FindsIn b first.gives f → FinishesIn b f mid new r → OnOk r ((n : List ℕ) → IsOnDisk first mid n) → IfOk r (λ o. o ≡ f.opened) → NoFault r → first.gives current_name ≡ None → OpensNew first new r
  new_in r false found done settled is clean absent = absurd (some_not_none _ (named_there first.gives f.opened.version.id found.layout found.named) absent)
  new_in (Ok o) true finds done settled is clean absent =
      let fin = done (ap (λ (p : Opened). p.version) finds.1) in
      let same = is ∙ finds.1 in
      record { version = ap (λ (p : Opened). p.version) same; next = ap (λ (p : Opened). p.next_table_id) same; persisted = first_named_on first mid new narrows settled fin.persisted; names = fin.names }
  new_in (Err opening.OutOfMemory) true finds done settled is clean absent = tt
  new_in (Err opening.Store) true finds done settled is clean absent = tt
  new_in (Err opening.CommitUnknown) true finds done settled is clean absent = tt
  new_in (Err (opening.Fault g)) true finds done settled is clean absent = absurd clean

  removes_in : ((n : List ℕ) → mid.may n (mid.gives n)) → (r : Result Opened OpenError) (b : Bool) → FindsIn b first.gives f → FinishesIn b f mid new r → OnOk r ((n : List ℕ) → IsOnDisk first mid n) → (id : ℕ) (ls : Levels) → IsNamed first.gives id ls → OnOk r (Removes (is_orphan id (ids_of ls)) first new)
  removes_in one (Err e) b finds done settled id ls named = tt
  removes_in one (Ok o) true finds done settled id ls named = absurd (some_not_none _ (named_there first.gives id ls named) finds.0)
  removes_in one (Ok o) false found done settled id ls named =
      removes_behind (orphan_of f) (is_orphan id (ids_of ls)) first mid new (orphans found id ls named) narrows settled one done.clears (done.removed (listed_on first.gives mid.gives (map string_bytes f.names.items) narrows.gives looks.names))

  settles_in : (r : Result Opened OpenError) (b : Bool) → FindsIn b first.gives f → FinishesIn b f mid new r → OnOk r ((n : List ℕ) → IsOnDisk first mid n) → IsSome (first.gives current_name) → OnOk r (IsOnDisk first new current_name)
  settles_in (Err e) b finds done settled there = tt
  settles_in (Ok o) true finds done settled there = absurd (some_not_none _ there finds.0)
  settles_in (Ok o) false found done settled there = on_disk_behind (orphan_of f) first mid new current_name (settled current_name) done.clears (current_stays f.opened.version.id f.ids.items)

  keeps_in : (r : Result Opened OpenError) → NoFault r → KeepsFiles first new r
  keeps_in (Ok o) clean = tt
  keeps_in (Err opening.OutOfMemory) clean = tt
  keeps_in (Err opening.Store) clean = tt
  keeps_in (Err opening.CommitUnknown) clean = tt
  keeps_in (Err (opening.Fault g)) clean = absurd clean

  unnamed_in : (b : Bool) → FindsIn b first.gives f → IsUnnamed first.gives → ⊥
  unnamed_in true finds none = some_not_none _ none.there finds.0
  unnamed_in false found none = none.names_none f.opened.version.id found.layout found.named

  pub opened : ImagesAreFirst → ((n : List ℕ) → mid.may n (mid.gives n)) → (IsSome (first.gives current_name) → ReadsFrom first.gives f.opened.version) → (r : Result Opened OpenError) → FinishesIn f.is_new f mid new r → OnOk r ((n : List ℕ) → IsOnDisk first mid n) → IfOk r (λ o. o ≡ f.opened) → NoFault r → Opens first new r
  opened once one from r done settled is clean =
      let finds = looks.finds in
      record {
        version = λ there. absurd (some_not_none _ there looks.no_version);
        opens = λ none there. opens_in r f.is_new finds done is there;
        from = λ there. IfOk-weaker r (λ o. o ≡ f.opened) (λ o. ReadsFrom first.gives o.version) (λ o same. subst (λ (x : Opened). ReadsFrom first.gives x.version) (sym same) (from there)) is;
        takes = λ id ls ts stands small. stands_opens once first.gives id ls ts r stands small (opens_in r f.is_new finds done is (named_there first.gives id ls stands.named));
        fresh = λ none absent. new_in r f.is_new finds done settled is clean absent;
        removes = removes_in one r f.is_new finds done settled;
        settles = λ there. settles_in r f.is_new finds done settled there;
        keeps = keeps_in r clean;
        unnamed = λ none. absurd (unnamed_in f.is_new finds none);
        older = λ there. absurd (some_not_none _ there looks.no_version);
      }

  pub leaves_behind : PlainNumbersAreRead → ((n : List ℕ) → IsOnDisk first mid n) → (r : Result Opened OpenError) → FinishesIn f.is_new f mid new r → LeavesStanding first new
  leaves_behind read settled r done = leaves_in read settled r f.is_new looks.finds done

-- ---- not settled, and so not finished

nothing_in : (mid : World) (f : Found) (b : Bool) (e : OpenError) → Only mid → StoreOnly {T = Opened} (Err e) → FinishesIn b f mid mid (Err e)
nothing_in mid f true e only refused = λ _. record { any_moment = old_or_new mid only; persisted = tt; names = tt }
nothing_in mid f false e only refused = record {
  only = refused;
  any_moment = cleared_none (orphan_of f) mid only;
  clears = record { may = λ n c may. inl may; kept = λ n c not may. may; gives = λ n not. refl };
  removed = tt;
}

clean_of : (e : OpenError) → StoreOnly {T = Opened} (Err e) → NoFault {T = Opened} (Err e)
clean_of opening.OutOfMemory h = tt
clean_of opening.Store h = tt
clean_of opening.CommitUnknown h = absurd h
clean_of (opening.Fault f) h = absurd h

pub unsettled : ImagesAreFirst → (first mid : World) (f : Found) → Only first → Only mid → IsFoundIn first.gives f → Narrows first mid → ((n : List ℕ) → mid.may n (mid.gives n)) → (IsSome (first.gives current_name) → ReadsFrom first.gives f.opened.version)
    → (e : OpenError) → StoreOnly {T = Opened} (Err e) → Opens first mid (Err e)
unsettled once first mid f only mid_only looks narrows one from e refused = opened first mid mid f only looks narrows once one from (Err e) (nothing_in mid f f.is_new e mid_only refused) tt tt (clean_of e refused)

-- ---- looking

-- what `current` leads to is refused
pub files_refused : (image : Image) (e : OpenError) → image (codes "version") ≡ None → IsSome (image current_name) → ChecksFiles image (Err e) → LooksInto image (Err e)
files_refused image opening.OutOfMemory none there bad = tt
files_refused image opening.Store none there bad = tt
files_refused image opening.CommitUnknown none there bad = bad
files_refused image (opening.Fault f) none there bad = BadFiles none there bad

pub new_is : (v : SeenVersion) → v ≡ first_version → ◌≡◌ {A = Opened} (record { version = v; next_table_id = 0 }) (record { version = first_version; next_table_id = 0 })
new_is v is = ap (λ (x : SeenVersion). record { version = x; next_table_id = 0 }) is

-- listing the names came before
pub looks_on : (old mid : Image) (names : List (List ℕ)) (r : Result Found OpenError) → ((n : List ℕ) → mid n ≡ old n) → Lists old names → (Lists mid names → LooksInto mid r) → LooksInto old r
looks_on old mid names r same all looks = subst (λ (image : Image). LooksInto image r) (image_same old mid same) (looks (listed_on old mid names same all))

-- ---- finishing

-- what is removed beside a version and its tables, under the numbers that a call was given
pub cleared_for : {T : Type 0} (f : Found) (old new : World) (id : ℕ) (ids : List ℕ) (names : List (String Global)) (r : Result T OpenError) → id ≡ f.opened.version.id → ids ≡ f.ids.items → names ≡ f.names.items → StoreOnly r → LeavesOnly old new (IsCleared (is_orphan id ids) old) → Clears (is_orphan id ids) old new
    → OnOk r (Lists old.gives (map string_bytes names) → (n : List ℕ) → is_orphan id ids n ≡ true → new.gives n ≡ None) → ClearsFor f old new r
cleared_for f old new id ids names r same_id same_ids same_names only moment clears removed =
    let are : is_orphan id ids ≡ orphan_of f = ap (λ (k : ℕ). is_orphan k ids) same_id ∙ ap (λ (x : List ℕ). is_orphan f.opened.version.id x) same_ids in
    record {
      only = only;
      any_moment = subst (λ (o : List ℕ → Bool). LeavesOnly old new (IsCleared o old)) are moment;
      clears = subst (λ (o : List ℕ → Bool). Clears o old new) are clears;
      removed = on_ok_weaker r (λ gone all n is. gone (subst (λ (l : List (String Global)). Lists old.gives (map string_bytes l)) (sym same_names) all) n (ap (λ (o : List ℕ → Bool). o n) are ∙ is)) removed;
    }

-- what stands is found
stands_in : ImagesAreFirst → (image : Image) (f : Found) (b : Bool) (id : ℕ) (ls : Levels) (ts : SeenLevels) → StandsFor image id ls ts → HasSmallNumbers ts → FindsIn b image f → OpensAs id ls ts (Ok f.opened)
stands_in once image f true id ls ts stands small finds = absurd (some_not_none _ (named_there image id ls stands.named) finds.0)
stands_in once image f false id ls ts stands small found = stands_opens once image id ls ts (Ok f.opened) stands small (f.ids.items, found)

pub stands_found : ImagesAreFirst → (image : Image) (f : Found) (id : ℕ) (ls : Levels) (ts : SeenLevels) → StandsFor image id ls ts → HasSmallNumbers ts → IsFoundIn image f → OpensAs id ls ts (Ok f.opened)
stands_found once image f id ls ts stands small looks = stands_in once image f f.is_new id ls ts stands small looks.finds

-- ---- with a `current` it is no new tree

pub not_new : (image : Image) (f : Found) → IsSome (image current_name) → LooksInto image (Ok f) → f.is_new ≡ false
not_new image f there looks = by_kind f.is_new looks.finds
  where
    by_kind : (b : Bool) → FindsIn b image f → b ≡ false
    by_kind true finds = absurd (some_not_none _ there finds.0)
    by_kind false finds = refl
