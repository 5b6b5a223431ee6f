-- What a ready store never loses, and that a settled one is ready.
use Rattle.std.proofs.Common.{◌≡◌, ◌≢◌, ⊎_elim, ℕ, ◌<◌, ◌^◌, Bool, true, false, cond, List, [], ◌∷◌, Option, Some, None, Result, Ok, Err, refl, sym, ap, ◌∙◌, subst, codes}
use Rattle.std.specs.Prelude.{bytes_eq, IsSome}
use Rattle.std.specs.List.{AllByRecursion}
use Rattle.std.proofs.lemmas.Slice.Eq.{bytes_eq-Decides}
use Rattle.lsm_store.specs.World.{Image, World, IsImage}
use Rattle.lsm_store.specs.Moments.{same_or_not}
use Rattle.lsm_tables.specs.Spellings.{ok_is}
use Rattle.lsm_tables.specs.Sum.{sum_of}
use Rattle.lsm_versions.specs.Levels.{Levels as SeenLevels, empty_levels}
use Rattle.lsm_below.specs.Each.{each_weaker}
use Rattle.lsm_manifest.specs.declared.recovered_table.RecoveredTable.{RecoveredTable}
use Rattle.lsm_manifest.specs.declared.fault.Fault.{Fault}
use Rattle.lsm_manifest.specs.declared.fault.Fault.TheVariants.{CurrentHeader}
use Rattle.lsm_manifest.specs.Names.{current_name, version_name, table_name}
use Rattle.lsm_manifest.specs.Spelling.{current}
use Rattle.lsm_manifest.specs.Recovery.{Levels, IsNamed, current_at}
use Rattle.lsm_manifest.specs.Standing.{Pairwise, IsTableAt, AreTablesAt, StandsFor}
use Rattle.lsm_manifest.specs.Finding.{Finds, Named, Nothing, IsSettled, AgreesInRead}
use Rattle.lsm_manifest.specs.Ready.{IsReady, NeverHas, KeepsNamed, BringsGoodNames, SettledStands}
use Rattle.lsm_manifest.proofs.Apart.{version_not_current, table_not_current, table_no_version}
use Rattle.lsm_manifest.proofs.Recovering.{sum_of-lt, current_back}
use Rattle.lsm_manifest.proofs.OpeningLemmas.{named_once, named_there, some_not_none}
use Rattle.lsm_manifest.proofs.FindingLemmas.{found_once, good_names}
use Rattle.lsm_manifest.proofs.Takes.{ImagesAreFirst}
use Rattle.lsm_manifest.proofs.Unread.{unread}

-- ---- what `current` names

abbrev pub content : Option (List ℕ) → List ℕ
content (Some bytes) = bytes
content None = []

pub names_one : (a b : Image) (i j : ℕ) (ls ms : Levels) → b current_name ≡ a current_name → IsNamed a i ls → IsNamed b j ms → i ≡ j
names_one a b i j ls ms same x y =
    let e : Some (current i (sum_of x.bytes)) ≡ Some (current j (sum_of y.bytes)) = sym x.current ∙ sym same ∙ y.current in
    let c : current i (sum_of x.bytes) ≡ current j (sum_of y.bytes) = ap content e in
    let o = sym (current_back i (sum_of x.bytes) x.id_fits (sum_of-lt x.bytes)) ∙ ap current_at c ∙ current_back j (sum_of y.bytes) y.id_fits (sum_of-lt y.bytes) in
    ap (λ (p : ℕ × ℕ). p.0) (ok_is (i, sum_of x.bytes) (j, sum_of y.bytes) o)

-- nothing is named by no bytes
no_header : (id sum : ℕ) → id < 2 ^ 64 → sum < 2 ^ 128 → Some [] ≡ Some (current id sum) → ⊥
no_header id sum small fits e =
    let none : current_at [] ≡ Ok (id, sum) = ap current_at (ap content e) ∙ current_back id sum small fits in
    let bad : ◌≡◌ {A = Result (ℕ × ℕ) Fault} (Err CurrentHeader) (Ok (id, sum)) = none in
    absurd (cc bad)

-- ---- an image with another content of one name

module _ (image : Image) (m : List ℕ) (c : Option (List ℕ)) where
  abbrev pub changed : Image
  changed n = cond (bytes_eq n m) c (image n)

  pub changed_here : changed m ≡ c
  changed_here = ap (λ b. cond b c (image m)) ((bytes_eq-Decides m m).1 refl)

  by_test : (n : List ℕ) (b : Bool) → bytes_eq n m ≡ b → n ≢ m → cond b c (image n) ≡ image n
  by_test n true is other = absurd (other ((bytes_eq-Decides n m).0 is))
  by_test n false is other = refl

  pub changed_else : (n : List ℕ) → n ≢ m → changed n ≡ image n
  changed_else n other = by_test n (bytes_eq n m) refl other

  pub changed_is : (w : World) → IsImage w.may image → w.may m c → IsImage w.may changed
  changed_is w at may n =
      ⊎_elim (λ same. subst (λ (k : List ℕ). w.may k (changed k)) (sym same) (subst (λ (o : Option (List ℕ)). w.may m o) (sym changed_here) may))
      (λ other. subst (λ (o : Option (List ℕ)). w.may n o) (sym (changed_else n other)) (at n)) (same_or_not n m)

-- ---- what is never lost

-- each item has for its own key what all have for any
run_self : (P : ℕ → RecoveredTable → Type 0) (M : ℕ → Type 0) (ts : List RecoveredTable) → ((i : ℕ) → M i → AllByRecursion (P i) ts) → AllByRecursion (λ t. M t.id → P t.id t) ts
run_self P M [] h = tt
run_self P M (t ∷ ts) h = (λ m. (h t.id m).0, run_self P M ts (λ i m. (h i m).1))

level_self : (P : ℕ → RecoveredTable → Type 0) (M : ℕ → Type 0) (rs : List (List RecoveredTable)) → ((i : ℕ) → M i → AllByRecursion (λ r. AllByRecursion (P i) r) rs) → AllByRecursion (λ r. AllByRecursion (λ t. M t.id → P t.id t) r) rs
level_self P M [] h = tt
level_self P M (r ∷ rs) h = (run_self P M r (λ i m. (h i m).0), level_self P M rs (λ i m. (h i m).1))

levels_self : (P : ℕ → RecoveredTable → Type 0) (M : ℕ → Type 0) (ls : Levels) → ((i : ℕ) → M i → AllByRecursion (λ l. AllByRecursion (λ r. AllByRecursion (P i) r) l) ls) → AllByRecursion (λ l. AllByRecursion (λ r. AllByRecursion (λ t. M t.id → P t.id t) r) l) ls
levels_self P M [] h = tt
levels_self P M (l ∷ ls) h = (level_self P M l (λ i m. (h i m).0), levels_self P M ls (λ i m. (h i m).1))

-- what holds of each first of a pair holds of each first
each_first : {A B : Type 0} (R : A → B → Type 0) (Q : A → Type 0) → ((x : A) (y : B) → R x y → Q x) → (xs : List A) (ys : List B) → Pairwise R xs ys → AllByRecursion Q xs
each_first R Q f [] [] h = tt
each_first R Q f [] (y ∷ ys) h = absurd h
each_first R Q f (x ∷ xs) [] h = absurd h
each_first R Q f (x ∷ xs) (y ∷ ys) h = (f x y h.0, each_first R Q f xs ys h.1)

-- the files of the tables are there
abbrev AreThere : Image → Levels → Type 0
AreThere image ls = AllByRecursion (λ l. AllByRecursion (λ r. AllByRecursion (λ t. IsSome (image (table_name t.id))) r) l) ls

tables_there : (image : Image) (ls : Levels) (ts : SeenLevels) → AreTablesAt image ls ts → AreThere image ls
tables_there image =
    each_first _ _ (λ l us. each_first _ _ (λ r vs. each_first (IsTableAt image) (λ t. IsSome (image (table_name t.id))) (λ t u at. subst (λ (o : Option (List ℕ)). IsSome o) (sym at.file) refl) r vs) l us)

module _ (w : World) (ready : IsReady w) (one : IsImage w.may w.gives) where
  pub ready_names : BringsGoodNames w
  ready_names = record {
    no_version = λ c may.
        let n = codes "version" in
        let f = ready.found (changed w.gives n c) (changed_is w.gives n c w one may) in
        sym (changed_here w.gives n c) ∙ (good_names (changed w.gives n c) f.0 f.1).no_version;
    in_tables = λ n c bad may.
        let f = ready.found (changed w.gives n c) (changed_is w.gives n c w one may) in
        sym (changed_here w.gives n c) ∙ (good_names (changed w.gives n c) f.0 f.1).in_tables n bad;
  }

  pub never_current : NeverHas w current_name (Some [])
  never_current may =
      let image = changed w.gives current_name (Some []) in
      let f = ready.found image (changed_is w.gives current_name (Some []) w one may) in
      by_found image (changed_here w.gives current_name (Some [])) f.0 f.1
    where
      by_found : (image : Image) → image current_name ≡ Some [] → (ts : SeenLevels) → Finds image ts → ⊥
      by_found image is ts (Named id ls s) = no_header id (sum_of s.named.bytes) s.named.id_fits (sum_of-lt s.named.bytes) (sym is ∙ s.named.current)
      by_found image is ts (Nothing none good e) = some_not_none (image current_name) (subst (λ (o : Option (List ℕ)). IsSome o) (sym is) refl) none

  module _ (id : ℕ) (ls : Levels) (named : IsNamed w.gives id ls) where
    -- an image with the same `current` names the same version
    same_named : (image : Image) → image current_name ≡ w.gives current_name → (ts : SeenLevels) → Finds image ts → (ms : Levels) × StandsFor image id ms ts
    same_named image same ts (Named j ms s) = (ms, subst (λ (k : ℕ). StandsFor image k ms ts) (sym (names_one w.gives image id j ls ms same named s.named)) s)
    same_named image same ts (Nothing none good e) = absurd (some_not_none (w.gives current_name) (named_there w.gives id ls named) (sym same ∙ none))

    never_version : NeverHas w (version_name id) None
    never_version may =
        let n = version_name id in
        let image = changed w.gives n None in
        let f = ready.found image (changed_is w.gives n None w one may) in
        let s = same_named image (changed_else w.gives n None current_name (λ e. version_not_current id (sym e))) f.0 f.1 in
        some_not_none (image n) (subst (λ (o : Option (List ℕ)). IsSome o) (sym s.1.named.version) refl) (changed_here w.gives n None)

    -- without a table's file the version names the same tables, so it is none of them
    still_there : (i : ℕ) → w.may (table_name i) None → AreThere (changed w.gives (table_name i) None) ls
    still_there i may =
        let n = table_name i in
        let image = changed w.gives n None in
        let f = ready.found image (changed_is w.gives n None w one may) in
        let current = changed_else w.gives n None current_name (λ e. table_not_current i (sym e)) in
        let version = changed_else w.gives n None (version_name id) (λ e. table_no_version i id (sym e)) in
        let s = same_named image current f.0 f.1 in
        let again : IsNamed image id ls = record { id_fits = named.id_fits; bytes = named.bytes; current = current ∙ named.current; version = version ∙ named.version; reads = named.reads } in
        tables_there image ls f.0 (subst (λ (l : Levels). AreTablesAt image l f.0) (sym (named_once image id id ls s.0 again s.1.named).1) s.1.tables)

    pub ready_keeps : KeepsNamed w id ls
    ready_keeps = record {
      current = never_current;
      version = never_version;
      tables = each_weaker _ _ (λ l. each_weaker _ _ (λ r. each_weaker _ _ (λ t not may. some_not_none _ (not may) (changed_here w.gives (table_name t.id) None)) r) l) ls
          (levels_self (λ i t. IsSome (changed w.gives (table_name i) None (table_name t.id))) (λ i. w.may (table_name i) None) ls still_there);
    }

-- ---- a settled store

module _ (first : ImagesAreFirst) (w : World) (ts : SeenLevels) (settled : IsSettled w) (found : Finds w.gives ts) where
  settled_agrees : (image : Image) → IsImage w.may image → AgreesInRead w.gives image
  settled_agrees image at = record {
    current = settled.current (image current_name) (at current_name);
    version = λ id ls named. (settled.named id ls named).version (image (version_name id)) (at (version_name id));
    tables = λ id ls named. each_weaker _ _ (λ l. each_weaker _ _ (λ r. each_weaker _ _ (λ t fixed. fixed (image (table_name t.id)) (at (table_name t.id))) r) l) ls (settled.named id ls named).tables;
    no_version = settled.no_version (image (codes "version")) (at (codes "version")) ∙ sym (good_names w.gives ts found).no_version;
    in_tables = λ n bad. settled.in_tables n (image n) bad (at n) ∙ sym ((good_names w.gives ts found).in_tables n bad);
  }

  settled_finds : (image : Image) → IsImage w.may image → Finds image ts
  settled_finds image at = (unread w.gives image (settled_agrees image at)).0 ts found

  finds_none : (us : SeenLevels) → w.gives current_name ≡ None → Finds w.gives us → us ≡ empty_levels
  finds_none us none (Named id ls s) = absurd (some_not_none (w.gives current_name) (named_there w.gives id ls s.named) none)
  finds_none us none (Nothing gone good e) = e

  pub settled_stands : SettledStands w ts
  settled_stands = record {
    ready = record {
      found = λ image at. (ts, settled_finds image at);
      once = λ a b us at_a at_b same x. subst (λ (vs : SeenLevels). Finds b vs) (found_once first a ts us (settled_finds a at_a) x) (settled_finds b at_b);
      none = λ a b us at_a at_b none x. found_once first a us ts x (settled_finds a at_a) ∙ finds_none ts (sym (settled.current (b current_name) (at_b current_name)) ∙ none) found;
    };
    finds = settled_finds;
  }
