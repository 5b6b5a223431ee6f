-- What each call keeps of the ids of memtables.
use Rattle.std.proofs.Common.{◌≡◌, ℕ, ◌+◌, ◌<◌, ◌≤◌, Bool, true, false, ◌||◌, List, [], ◌∷◌, ◌++◌, Option, refl, sym, ap, ◌∙◌, subst, arith, eqb, eq-eqb}
use Rattle.std.specs.List.{AllByRecursion}
use Rattle.lsm_below.specs.Entries.{Entry}
use Rattle.lsm_memtable.specs.Memtables.{SeenMemtable, with_entry, with_entries, new_memtable}
use Rattle.lsm_parts.specs.declared.version.super_version.SuperVersion.{SuperVersion}
use Rattle.lsm_flush.specs.Jobs.{SeenOpen}
use Rattle.lsm_parts.specs.History.{SeenHistory, versions_of, rotated}
use Rattle.lsm_parts.specs.Held.{put_all_first, HasFirst, ids_of, FallFrom, is_among}
use Rattle.lsm_state.specs.Kept.{NameHeld, RiseFrom, first_or, least_named, NameOlder, KeepsIds, KeepsTables}

-- ---- writes

with_entries-id : (es : List Entry) (t : SeenMemtable) → (with_entries es t).id ≡ t.id
with_entries-id [] t = refl
with_entries-id (e ∷ es) t = with_entries-id es (with_entry e t)

ids_of-put_all : (es : List Entry) (ts : List SeenMemtable) → ids_of (put_all_first es ts) ≡ ids_of ts
ids_of-put_all es [] = refl
ids_of-put_all es (t ∷ ts) = ap (λ i. i ∷ ids_of ts) (with_entries-id es t)

first_id : (ts us : List SeenMemtable) (a : ℕ) → ids_of ts ≡ ids_of us → HasFirst ts (λ m. m.id ≡ a) → HasFirst us (λ m. m.id ≡ a)
first_id [] us a same h = absurd h
first_id (t ∷ ts) [] a same h = absurd (cc same)
first_id (t ∷ ts) (u ∷ us) a same h =
    let here : t.id ≡ u.id = cc same in
    sym here ∙ h

-- memtables with the same ids
pub same_ids : (ts us : List SeenMemtable) (h : SeenHistory) (n : ℕ) → ids_of us ≡ ids_of ts → KeepsIds ts h n → KeepsIds us h n
same_ids ts us h n same k = record {
  active = first_id ts us h.latest.active_memtable (sym same) k.active;
  fall = subst (FallFrom n) (sym same) k.fall;
  held = subst (λ ids. NameHeld ids (versions_of h)) (sym same) k.held;
  older = k.older;
}

pub kept_put_all : (es : List Entry) (ts : List SeenMemtable) (h : SeenHistory) (n : ℕ) → KeepsIds ts h n → KeepsIds (put_all_first es ts) h n
kept_put_all es ts h n k = same_ids ts (put_all_first es ts) h n (ids_of-put_all es ts) k

-- ---- rotation

or_true : (a b : Bool) → b ≡ true → (a || b) ≡ true
or_true true b h = refl
or_true false b h = h

all_more : (n : ℕ) (ids named : List ℕ) → AllByRecursion (λ i. is_among ids i ≡ true) named → AllByRecursion (λ i. is_among (n ∷ ids) i ≡ true) named
all_more n ids [] h = tt
all_more n ids (i ∷ named) h = (or_true (eqb i n) (is_among ids i) h.0, all_more n ids named h.1)

pub all_named_more : (n : ℕ) (ids : List ℕ) (versions : List SuperVersion) → NameHeld ids versions → NameHeld (n ∷ ids) versions
all_named_more n ids [] h = tt
all_named_more n ids (sv ∷ versions) h = (all_more n ids (sv.active_memtable ∷ sv.sealed_memtables) h.0, all_named_more n ids versions h.1)

pub all_push : (P : ℕ → Type 0) (ids : List ℕ) (i : ℕ) → AllByRecursion P ids → P i → AllByRecursion P (ids ++ i ∷ [])
all_push P [] i h here = (here, tt)
all_push P (j ∷ ids) i h here = (h.0, all_push P ids i h.1 here)

-- the id is one of these, as the first
pub among_first : (n : ℕ) (ids : List ℕ) → is_among (n ∷ ids) n ≡ true
among_first n ids = ap (λ b. b || is_among ids n) (eq-eqb n n refl)

rise_push : (m a n : ℕ) (ids : List ℕ) → a < n → RiseFrom m (ids ++ a ∷ []) → RiseFrom m ((ids ++ a ∷ []) ++ n ∷ [])
rise_push m a n [] lt h = (h.0, (omega arith, tt))
rise_push m a n (i ∷ ids) lt h = (h.0, rise_push (i + 1) a n ids lt h.1)

-- with one more after them, the first of some ids is the same
first_push : (a n : ℕ) (ids : List ℕ) → first_or n (ids ++ a ∷ []) ≡ first_or a ids
first_push a n [] = refl
first_push a n (i ∷ ids) = refl

pub first_below : (n a : ℕ) (ts : List SeenMemtable) → FallFrom n (ids_of ts) → HasFirst ts (λ m. m.id ≡ a) → a < n
first_below n a [] f h = absurd h
first_below n a (t ∷ ts) f h = subst (λ i. i < n) h f.0

pub kept_rotated : (ts : List SeenMemtable) (h : SeenHistory) (n : ℕ) → KeepsIds ts h n → KeepsIds (new_memtable n ∷ ts) (record { latest = rotated n h.latest; older = h.older }) (n + 1)
kept_rotated ts h n k =
    let more = all_named_more n (ids_of ts) (versions_of h) k.held in
    let a = h.latest.active_memtable in
    let s = h.latest.sealed_memtables in
    let lt : a < n = first_below n a ts k.fall k.active in
    let least : least_named h.latest ≤ a = k.older.0 in
    record {
      active = refl;
      fall = (omega arith, k.fall);
      held = ((among_first n (ids_of ts), all_push (λ i. is_among (n ∷ ids_of ts) i ≡ true) s a more.0.1 more.0.0), more.1);
      older = subst (λ l. (l ≤ n) × RiseFrom l ((s ++ a ∷ []) ++ n ∷ []) × NameOlder l h.older) (sym (first_push a n s)) (omega arith, rise_push (least_named h.latest) a n s lt k.older.1, k.older.2);
    }

-- a rotation keeps the tables
pub tables_rotated : (flush : Option SeenOpen) (h : SeenHistory) (id next : ℕ) → KeepsTables flush h next → KeepsTables flush (record { latest = rotated id h.latest; older = h.older }) next
tables_rotated flush h id next k = record { own_ids = k.own_ids; below = k.below; aged = k.aged }

-- ---- a rotation that is undone

pub rotated_back : (h mid new : SeenHistory) (id : ℕ) → mid ≡ record { latest = rotated id h.latest; older = h.older }
    → ((i : ℕ) (before : SuperVersion) → mid.latest ≡ rotated i before → new ≡ record { latest = before; older = mid.older }) → new ≡ h
rotated_back h mid new id e back = back id h.latest (ap (λ m. m.latest) e) ∙ ap (λ m. record { latest = h.latest; older = m.older }) e
