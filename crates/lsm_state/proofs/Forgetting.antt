-- Maintenance is a step of the theory: what it forgets, nothing that is left reads.
use Rattle.std.proofs.Common.{suc, zero, ◌≡◌, ℕ, ◌+◌, ◌≤◌, ◌<◌, Bool, true, false, cond, nat_lt, List, [], ◌∷◌, ◌++◌, map, reverse, take, drop, length, refl, sym, ap, ◌∙◌, subst, arith, eqb}
use Rattle.std.specs.Prelude.{nat_le}
use Rattle.std.specs.List.{AllByRecursion}
use Rattle.std.proofs.lemmas.Bool.{leb-false}
use Rattle.std.proofs.lemmas.Bool.Decides.{nat_tests}
use Rattle.std.proofs.lemmas.List.{take-take, take-append-drop, map-append, reverse-append}
use Rattle.lsm_below.specs.Each.{each_left, each_right, each_weaker, each_append}
use Rattle.lsm_model.specs.Journal.{Event, is_kept}
use Rattle.lsm_model.specs.Views.{SuperVersion as Shown, sources, maintained}
use Rattle.lsm_model.specs.Steps.{IsMaintained}
use Rattle.lsm_memtable.specs.Memtables.{SeenMemtable}
use Rattle.lsm_parts.specs.declared.version.super_version.SuperVersion.{SuperVersion}
use Rattle.lsm_parts.specs.History.{SeenHistory, oldest, versions_of}
use Rattle.lsm_parts.specs.Maintenance.{needed_of, needed}
use Rattle.lsm_parts.specs.Held.{entries_of}
use Rattle.lsm_state.specs.Kept.{RiseFrom, named_by, least_named, NameOlder}
use Rattle.lsm_state.specs.Core.{Core, shown_as, state_of}
use Rattle.lsm_parts.specs.Held.{from_id}
use Rattle.lsm_state.specs.Cleaning.{oldest_named, Cleans}

-- ---- memtables

apart : (i n j : ℕ) → n ≤ i → j < n → eqb i j ≡ false
apart i n j le lt = grind (arith, nat_tests)

-- those of an id that isn't below n stay
held_from : (n i : ℕ) (ts : List SeenMemtable) → n ≤ i → entries_of (from_id n ts) i ≡ entries_of ts i
held_from n i [] le = refl
held_from n i (t ∷ ts) le = by_case (held_from n i ts le) (nat_le n t.id) refl
  where
    by_case : entries_of (from_id n ts) i ≡ entries_of ts i → (b : Bool) → nat_le n t.id ≡ b → entries_of (cond b (t ∷ from_id n ts) (from_id n ts)) i ≡ cond (eqb i t.id) t.entries (entries_of ts i)
    by_case rest true e = ap (λ es. cond (eqb i t.id) t.entries es) rest
    by_case rest false e = rest ∙ sym (ap (λ b. cond b t.entries (entries_of ts i)) (apart i n t.id le (leb-false n t.id e)))

all_reverse : (P : ℕ → Type 0) (ids : List ℕ) → AllByRecursion P ids → AllByRecursion P (reverse ids)
all_reverse P [] h = tt
all_reverse P (i ∷ ids) h = subst (AllByRecursion P) (sym (reverse-append (i ∷ []) ids)) (each_append P (reverse ids) (i ∷ []) (all_reverse P ids h.1) (h.0, tt))

map_from : (n : ℕ) (ts : List SeenMemtable) (ids : List ℕ) → AllByRecursion (λ i. n ≤ i) ids → map (entries_of (from_id n ts)) ids ≡ map (entries_of ts) ids
map_from n ts [] h = refl
map_from n ts (i ∷ ids) h = ap (λ es. es ∷ map (entries_of (from_id n ts)) ids) (held_from n i ts h.0) ∙ ap (λ l. entries_of ts i ∷ l) (map_from n ts ids h.1)

-- a super version whose ids aren't below n reads the same
sources_from : (n : ℕ) (ts : List SeenMemtable) (sv : SuperVersion) → AllByRecursion (λ i. n ≤ i) (named_by sv) → sources (entries_of (from_id n ts)) (shown_as sv) ≡ sources (entries_of ts) (shown_as sv)
sources_from n ts sv h =
    let P = λ (i : ℕ). n ≤ i in
    let s = sv.sealed_memtables in
    let last = each_right P s (sv.active_memtable ∷ []) h in
    ap (λ l. l ++ map (λ p. p.table.entries) (shown_as sv).tables) (map_from n ts (sv.active_memtable ∷ reverse s) (last.0, all_reverse P s (each_left P s (sv.active_memtable ∷ []) h)))

-- ---- ids that super versions name

rise_over : (n : ℕ) (ids : List ℕ) → RiseFrom n ids → AllByRecursion (λ i. n ≤ i) ids
rise_over n [] h = tt
rise_over n (i ∷ ids) h =
    let here : n ≤ i = h.0 in
    (here, each_weaker (λ j. i + 1 ≤ j) (λ j. n ≤ j) (λ j le. omega (arith, le, here)) ids (rise_over (i + 1) ids h.1))

pub least_down : (p : ℕ) (sv : SuperVersion) (older : List SuperVersion) → NameOlder p (sv ∷ older) → least_named (oldest sv older) ≤ least_named sv
least_down p sv [] h = omega arith
least_down p sv (next ∷ older) h =
    let rest = least_down (least_named sv) next older h.2 in
    let here : least_named next ≤ least_named sv = h.2.0 in
    omega (arith, rest, here)

-- none is below that of the oldest memtable of the oldest super version
pub all_over : (p : ℕ) (sv : SuperVersion) (older : List SuperVersion) → NameOlder p (sv ∷ older) → AllByRecursion (λ s. AllByRecursion (λ i. least_named (oldest sv older) ≤ i) (named_by s)) (sv ∷ older)
all_over p sv [] h = (rise_over (least_named sv) (named_by sv) h.1, tt)
all_over p sv (next ∷ older) h =
    let low = least_down p sv (next ∷ older) h in
    (each_weaker (λ i. least_named sv ≤ i) (λ i. least_named (oldest next older) ≤ i) (λ i le. omega (arith, le, low)) (named_by sv) (rise_over (least_named sv) (named_by sv) h.1), all_over (least_named sv) next older h.2)

pub older_take : (p k : ℕ) (versions : List SuperVersion) → NameOlder p versions → NameOlder p (take k versions)
older_take p zero versions h = tt
older_take p (suc k) [] h = tt
older_take p (suc k) (sv ∷ versions) h = (h.0, h.1, older_take (least_named sv) k versions h.2)

-- ---- super versions that are left

take_cons : {A : Type 0} (n : ℕ) (x : A) (xs : List A) → take (n + 1) (x ∷ xs) ≡ x ∷ take n xs
take_cons n x xs = let e : n + 1 ≡ suc n = omega arith in ap (λ m. take m (x ∷ xs)) e

maintained_is : (w : ℕ) (xs : List SuperVersion) → maintained w (map shown_as xs) ≡ map shown_as (take (needed_of w xs) xs)
maintained_is w [] = refl
maintained_is w (sv ∷ xs) = by_case (nat_lt sv.seqno w) (maintained_is w xs)
  where
    by_case : (b : Bool) → maintained w (map shown_as xs) ≡ map shown_as (take (needed_of w xs) xs) → cond b (shown_as sv ∷ []) (shown_as sv ∷ maintained w (map shown_as xs)) ≡ map shown_as (take (cond b 1 (needed_of w xs + 1)) (sv ∷ xs))
    by_case true h = refl
    by_case false h = ap (λ l. shown_as sv ∷ l) h ∙ sym (ap (map shown_as) (take_cons (needed_of w xs) sv xs))

maintained_all : (w : ℕ) (h : SeenHistory) → maintained w (shown_as h.latest ∷ map shown_as h.older) ≡ shown_as h.latest ∷ map shown_as (take (needed w h) h.older)
maintained_all w h = by_case (nat_lt h.latest.seqno w)
  where
    by_case : (b : Bool) → cond b (shown_as h.latest ∷ []) (shown_as h.latest ∷ maintained w (map shown_as h.older)) ≡ shown_as h.latest ∷ map shown_as (take (cond b 0 (needed_of w h.older)) h.older)
    by_case true = refl
    by_case false = ap (λ l. shown_as h.latest ∷ l) (maintained_is w h.older)

each_shown : (P : Shown → Type 0) (svs : List SuperVersion) → AllByRecursion (λ sv. P (shown_as sv)) svs → AllByRecursion P (map shown_as svs)
each_shown P [] h = tt
each_shown P (sv ∷ svs) h = (h.0, each_shown P svs h.1)

-- ---- maintenance

-- the history with the newest k of the older super versions
abbrev trimmed : ℕ → SeenHistory → SeenHistory
trimmed k h = record { latest = h.latest; older = take k h.older }

-- the tree with that history, and the memtables that it names
abbrev forgetful : ℕ → Core → Core
forgetful k c = record c { memtables = from_id (oldest_named (trimmed k c.history)) c.memtables; history = trimmed k c.history }

module _ (w k p : ℕ) (c : Core) (named : NameOlder p (versions_of c.history)) (enough : needed w c.history ≤ k) where
  reads_same : AllByRecursion (λ sv. sources (entries_of (from_id (oldest_named (trimmed k c.history)) c.memtables)) sv ≡ sources (entries_of c.memtables) sv) (map shown_as (versions_of (trimmed k c.history)))
  reads_same =
      let n = oldest_named (trimmed k c.history) in
      let left = take k c.history.older in
      each_shown (λ sv. sources (entries_of (from_id n c.memtables)) sv ≡ sources (entries_of c.memtables) sv) (c.history.latest ∷ left)
      (each_weaker (λ sv. AllByRecursion (λ i. n ≤ i) (named_by sv)) (λ sv. sources (entries_of (from_id n c.memtables)) (shown_as sv) ≡ sources (entries_of c.memtables) (shown_as sv)) (λ sv. sources_from n c.memtables sv) (c.history.latest ∷ left)
      (all_over p c.history.latest left (named.0, named.1, older_take (least_named c.history.latest) k c.history.older named.2)))

  forgetful_step : (journal : List Event) → ((s : ℕ) → is_kept s journal ≡ true → w ≤ s) → IsMaintained w (state_of journal c) (state_of journal (forgetful k c))
  forgetful_step journal keeps =
      let m = needed w c.history in
      let older = c.history.older in
      let front : map shown_as (take k older) ≡ map shown_as (take m older) ++ map shown_as (drop m (take k older)) = ap (map shown_as) (sym (take-append-drop m (take k older)) ∙ ap (λ l. l ++ drop m (take k older)) (take-take m k older enough)) ∙ map-append shown_as (take m older) (drop m (take k older)) in
      record {
        marked = keeps;
        journal = refl;
        mems = reads_same;
        still = map shown_as (drop m (take k older));
        holds = ap (λ l. shown_as c.history.latest ∷ l) front ∙ ap (λ l. l ++ map shown_as (drop m (take k older))) (sym (maintained_all w c.history));
        removed = map shown_as (drop k older);
        was = ap (λ l. shown_as c.history.latest ∷ l) (ap (map shown_as) (sym (take-append-drop k older)) ∙ map-append shown_as (take k older) (drop k older));
      }

cleaned_is : (w : ℕ) (whole : Bool) (c new : Core) → Cleans w whole c new → new ≡ forgetful (length new.history.older) c
cleaned_is w whole c new cleans =
    let k = length new.history.older in
    let is : new.history ≡ trimmed k c.history = ap (λ l. record { latest = l; older = new.history.older }) cleans.history.latest ∙ ap (λ o. record { latest = c.history.latest; older = o }) cleans.history.older in
    cleans.rest ∙ ap (λ ms. record c { memtables = ms; history = new.history }) cleans.memtables ∙ ap (λ h. record c { memtables = from_id (oldest_named h) c.memtables; history = h }) is

-- maintenance of a tree whose older super versions name older memtables
pub cleaned_step : (w p : ℕ) (whole : Bool) (c new : Core) → NameOlder p (versions_of c.history) → Cleans w whole c new → (journal : List Event) → ((s : ℕ) → is_kept s journal ≡ true → w ≤ s) → IsMaintained w (state_of journal c) (state_of journal new)
cleaned_step w p whole c new named cleans journal keeps =
    subst (λ d. IsMaintained w (state_of journal c) (state_of journal d)) (sym (cleaned_is w whole c new cleans)) (forgetful_step w (length new.history.older) p c named cleans.history.enough journal keeps)
