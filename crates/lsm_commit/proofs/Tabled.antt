-- Tables that are written.
use Rattle.std.proofs.Common.{◌≡◌, ℕ, ◌+◌, ◌<◌, ◌≤◌, ◌^◌, false, eqb, List, [], ◌∷◌, ◌++◌, length, map, flat_map, refl, sym, ap, ◌∙◌, subst, arith, append-nil, append_assoc}
use Rattle.std.specs.Prelude.{nat_eq}
use Rattle.std.specs.Cmp.{nat_eq_equiv}
use Rattle.std.specs.List.{AllByRecursion, IsDistinct, list_any}
use Rattle.std.proofs.lemmas.Bool.{ne_eqb}
use Rattle.std.proofs.lemmas.List.{map-append, length-append}
use Rattle.std.proofs.lemmas.List.Concat.{flat_map-cons}
use Rattle.std.proofs.lemmas.Map.Keys.{IsDistinct-push}
use Rattle.lsm_below.specs.Each.{each_append, each_weaker, each_both}
use Rattle.lsm_below.specs.Entries.{Entry}
use Rattle.lsm_store.specs.World.{World}
use Rattle.lsm_store.specs.Synced.{KeepsOthers}
use Rattle.lsm_tables.specs.Cutting.{IsWritable, IsCutting, CutsFirst}
use Rattle.lsm_tables.specs.Tables.{SeenTable}
use Rattle.lsm_tables.proofs.Cutting.{cut_none}
use Rattle.lsm_versions.specs.Levels.{HasOwnIds}
use Rattle.lsm_versions.specs.Installs.{CutTablesAreRuns}
use Rattle.lsm_manifest.specs.Names.{table_name}
use Rattle.lsm_commit.specs.Stored.{table_file, IsTableOnDisk, AreOnDisk}
use Rattle.lsm_commit.specs.declared.tables.TheConstants.{TABLE_TARGET}
use Rattle.lsm_commit.specs.Writing.{HoldEntries}
use Rattle.lsm_commit.proofs.NextFiles.{file_stays}

pub table_is : (t : SeenTable) (i m : ℕ) (es : List Entry) → t.id ≡ i → t.created_at ≡ m → t.entries ≡ es → t ≡ record { id = i; created_at = m; entries = es }
table_is t i m es a b c =
    ap (λ (x : ℕ). record { id = x; created_at = t.created_at; entries = t.entries }) a ∙ ap (λ (x : ℕ). record { id = i; created_at = x; entries = t.entries }) b ∙ ap (λ (x : List Entry). record { id = i; created_at = m; entries = x }) c

-- ---- one table more

pub each_push : {A : Type 0} (P : A → Type 0) (xs : List A) (x : A) → AllByRecursion P xs → P x → AllByRecursion P (xs ++ x ∷ [])
each_push P xs x h here = each_append P xs (x ∷ []) h (here, tt)

-- tables so far, and the entries that are still to be written
pub record IsUnderway (target made_at first next : ℕ) (es : List Entry) (tables : List SeenTable) (rest : List Entry) : Type 0 where
  pub goes_on : (later : List (List Entry)) → IsCutting target rest later → IsCutting target es (map (λ t. t.entries) tables ++ later)
  pub writable : IsWritable rest
  pub made : AllByRecursion (λ t. t.created_at ≡ made_at) tables
  pub fresh : AllByRecursion (λ t. first ≤ t.id) tables
  pub below : AllByRecursion (λ t. t.id < next) tables
  pub own_ids : HasOwnIds tables
  pub drawn : next ≡ first + length tables
  pub rises : first ≤ next

-- a table more is written, and one id more is used
pub draws_more : (next first : ℕ) (front behind rest es : List Entry) → front ++ behind ≡ rest → 0 < length front → next + length rest ≤ first + length es → next + 1 + length behind ≤ first + length es
draws_more next first front behind rest es parts some so_far =
    let len : length rest ≡ length front + length behind = ap length (sym parts) ∙ length-append front behind in
    omega (arith, len, some, so_far)

own_none : HasOwnIds []
unfolding IsDistinct
own_none = tt

pub underway_none : (target made_at first : ℕ) (es : List Entry) → IsWritable es → IsUnderway target made_at first first es [] es
underway_none target made_at first es writable = record { goes_on = λ later cut. cut; writable = writable; made = tt; fresh = tt; below = tt; own_ids = own_none; drawn = omega arith; rises = omega arith }

not_there : (n : ℕ) (tables : List SeenTable) → AllByRecursion (λ t. t.id < n) tables → list_any (λ j. eqb n j) (map (λ t. t.id) tables) ≡ false
not_there n [] h = refl
not_there n (t ∷ tables) h = let lt : t.id < n = h.0 in rw (ne_eqb n t.id (λ e. omega arith)) (not_there n tables h.1)

pub underway_more : (target made_at first next : ℕ) (es : List Entry) (tables : List SeenTable) (rest front behind : List Entry) (t : SeenTable) → IsUnderway target made_at first next es tables rest → t ≡ record { id = next; created_at = made_at; entries = front } → IsWritable behind → CutsFirst target rest front behind
    → IsUnderway target made_at first (next + 1) es (tables ++ t ∷ []) behind
underway_more target made_at first next es tables rest front behind t so_far is writable cut =
    let id : t.id ≡ next = ap (λ (u : SeenTable). u.id) is in
    let le : first ≤ next = so_far.rises in
    let drawn : next ≡ first + length tables = so_far.drawn in
    let one_more : length (tables ++ t ∷ []) ≡ length tables + 1 = length-append tables (t ∷ []) in
    let listed : map (λ (u : SeenTable). u.entries) (tables ++ t ∷ []) ≡ map (λ u. u.entries) tables ++ front ∷ [] = map-append (λ (u : SeenTable). u.entries) tables (t ∷ []) ∙ ap (λ (u : SeenTable). map (λ u. u.entries) tables ++ u.entries ∷ []) is in
    record {
      goes_on = λ later rest_cut. subst (λ (l : List (List Entry)). IsCutting target es l) (sym (ap (λ (l : List (List Entry)). l ++ later) listed ∙ append_assoc (map (λ u. u.entries) tables) (front ∷ []) later)) (so_far.goes_on (front ∷ later) (cut later rest_cut));
      writable = writable;
      made = each_push (λ u. u.created_at ≡ made_at) tables t so_far.made (ap (λ (u : SeenTable). u.created_at) is);
      fresh = each_push (λ u. first ≤ u.id) tables t so_far.fresh (omega (arith, id, le));
      below = each_push (λ u. u.id < next + 1) tables t (each_weaker (λ u. u.id < next) (λ u. u.id < next + 1) (λ u (h : u.id < next). omega arith) tables so_far.below) (omega (arith, id));
      own_ids = subst (IsDistinct nat_eq) (sym (map-append (λ (u : SeenTable). u.id) tables (t ∷ []))) (IsDistinct-push nat_eq_equiv (map (λ u. u.id) tables) t.id so_far.own_ids (subst (λ i. list_any (λ j. eqb i j) (map (λ u. u.id) tables) ≡ false) (sym id) (not_there next tables so_far.below)));
      drawn = omega (arith, drawn, one_more);
      rises = omega arith;
    }

flat_entries : (tables : List SeenTable) → flat_map (λ l. l) (map (λ t. t.entries) tables) ≡ flat_map (λ t. t.entries) tables
flat_entries [] = refl
flat_entries (t ∷ tables) = flat_map-cons (λ (l : List Entry). l) t.entries (map (λ t. t.entries) tables) ∙ ap (λ (l : List Entry). t.entries ++ l) (flat_entries tables) ∙ sym (flat_map-cons (λ (u : SeenTable). u.entries) t tables)

pub all_written : CutTablesAreRuns → (made_at first next : ℕ) (es : List Entry) (tables : List SeenTable) (rest : List Entry) → IsWritable es → IsUnderway TABLE_TARGET made_at first next es tables rest → rest ≡ [] → HoldEntries made_at es first next tables
all_written runs made_at first next es tables rest writable done none =
    let cut : IsCutting TABLE_TARGET es (map (λ t. t.entries) tables) = subst (λ (l : List (List Entry)). IsCutting TABLE_TARGET es l) (append-nil (map (λ t. t.entries) tables)) (done.goes_on [] (subst (λ (l : List Entry). IsCutting TABLE_TARGET l []) (sym none) (cut_none TABLE_TARGET))) in
    record {
      whole = sym (flat_entries tables) ∙ cut.whole;
      cut = cut;
      made = done.made;
      run = runs TABLE_TARGET es tables writable.rises cut;
      fresh = done.fresh;
      below = done.below;
      own_ids = done.own_ids;
      drawn = done.drawn;
    }

-- ---- files

-- tables of lesser ids that are on the disk stay so
pub tables_stay : ((i j : ℕ) → i < 2 ^ 64 → j < 2 ^ 64 → table_name i ≡ table_name j → i ≡ j) → (next : ℕ) → next < 2 ^ 64 → (mid new : World) → KeepsOthers (table_name next) mid new → (tables : List SeenTable) → AllByRecursion (λ t. t.id < next) tables → AreOnDisk mid tables → AreOnDisk new tables
tables_stay apart next small mid new keeps tables below on = each_both (λ t. t.id < next) (IsTableOnDisk mid) (IsTableOnDisk new)
    (λ t lesser is. record { id = is.id; reads = is.reads; file = file_stays apart next small mid new keeps t.id (table_file t) is.id lesser is.file }) tables below on
