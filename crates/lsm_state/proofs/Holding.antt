-- The sealed memtables of the latest super version are held.
use Rattle.std.proofs.Common.{◌≡◌, ℕ, ◌+◌, ◌<◌, ◌≤◌, true, List, [], ◌∷◌, ◌++◌, reverse, sym, subst, arith}
use Rattle.std.proofs.lemmas.List.{reverse-append}
use Rattle.std.specs.List.{AllByRecursion}
use Rattle.lsm_memtable.specs.Memtables.{SeenMemtable}
use Rattle.lsm_parts.specs.History.{SeenHistory}
use Rattle.lsm_parts.specs.Held.{HasFirst, ids_of, is_among, IsSealedIn}
use Rattle.lsm_state.specs.Kept.{RiseFrom, KeepsIds, least_named}
use Rattle.lsm_state.proofs.Kept.{all_push}

rise_below : (m a : ℕ) (ids : List ℕ) → RiseFrom m (ids ++ a ∷ []) → AllByRecursion (λ i. i < a) ids × (m ≤ a)
rise_below m a [] h = (tt, h.0)
rise_below m a (i ∷ ids) h =
    let rest = rise_below (i + 1) a ids h.1 in
    let over : i + 1 ≤ a = rest.1 in
    let here : m ≤ i = h.0 in
    ((omega arith, rest.0), omega arith)

first_over : (ts : List SeenMemtable) (a i : ℕ) → HasFirst ts (λ m. m.id ≡ a) → i < a → HasFirst ts (λ t. i < t.id)
first_over [] a i h lt = absurd h
first_over (t ∷ ts) a i h lt = subst (λ n. i < n) (sym h) lt

all_sealed : (ts : List SeenMemtable) (a : ℕ) (ids : List ℕ) → HasFirst ts (λ m. m.id ≡ a) → AllByRecursion (λ i. is_among (ids_of ts) i ≡ true) ids → AllByRecursion (λ i. i < a) ids → AllByRecursion (IsSealedIn ts) ids
all_sealed ts a [] first among below = tt
all_sealed ts a (i ∷ ids) first among below = ((among.0, first_over ts a i first below.0), all_sealed ts a ids first among.1 below.1)

all_reverse : (P : ℕ → Type 0) (ids : List ℕ) → AllByRecursion P ids → AllByRecursion P (reverse ids)
all_reverse P [] h = tt
all_reverse P (i ∷ ids) h = subst (AllByRecursion P) (sym (reverse-append (i ∷ []) ids)) (all_push P (reverse ids) i (all_reverse P ids h.1) h.0)

-- those are held and sealed
pub sealed_are_held : (ts : List SeenMemtable) (h : SeenHistory) (n : ℕ) → KeepsIds ts h n → AllByRecursion (IsSealedIn ts) (reverse h.latest.sealed_memtables)
sealed_are_held ts h n k =
    let a = h.latest.active_memtable in
    let below = rise_below (least_named h.latest) a h.latest.sealed_memtables k.older.1 in
    all_reverse (IsSealedIn ts) h.latest.sealed_memtables (all_sealed ts a h.latest.sealed_memtables k.active k.held.0.1 below.0)
