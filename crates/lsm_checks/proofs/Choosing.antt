-- What no reason to decline says of a choice.
use Rattle.std.proofs.Common.{◌≡◌, ℕ, ◌+◌, ◌<◌, ◌≤◌, Bool, true, false, cond, not, ◌&&◌, ◌||◌, eqb, ltb, leb, List, [], ◌∷◌, ◌++◌, length, Option, Some, None, IsTrue, ◌↔◌, refl, sym, ◌∙◌, subst, arith}
use Rattle.std.specs.List.{AllByRecursion, list_any}
use Rattle.std.proofs.lemmas.Bool.Decides.{nat_tests}
use Rattle.lsm_below.specs.Ranges.{overlap}
use Rattle.lsm_below.specs.Optimizes.{tables_of}
use Rattle.lsm_tables.specs.Tables.{SeenTable}
use Rattle.lsm_model.specs.Views.{EachPair, Placed, PairAllowed, IsAllowed, placed_from}
use Rattle.lsm_model.specs.Steps.{among}
use Rattle.lsm_versions.specs.Levels.{Levels, range, shown_levels, all_of, placed_of, placed_in, chosen_in, AreApart}
use Rattle.lsm_checks.specs.declared.choice.Kind.{Kind}
use Rattle.lsm_checks.specs.declared.choice.Kind.TheVariants.{Merge, Move, Drop}
use Rattle.lsm_checks.specs.declared.parted_run.Fault.TheVariants.{OutOfOrder, StandsBelow}
use Rattle.lsm_checks.specs.declared.choice.Why.{Why}
use Rattle.lsm_checks.specs.declared.choice.Why.TheVariants.{NoSuchLevel, Order, Eviction, Stale}
use Rattle.lsm_checks.specs.Choices.{any_pair, is_bad, is_fault, any_bad, is_clash, any_clash, is_drop, is_move, is_there, first_of, reasons_of, first_reason_of, last_reason_of, IsMovable, AreThere, AllStand, IsLastReason}
use Rattle.lsm_versions.specs.TableLaws.{or_parts, none_with, placed_cons}

no_pair : {A : Type 0} (R : A → A → Bool) (xs : List A) → any_pair R xs ≡ false → EachPair (λ x y. R x y ≡ false) xs
no_pair R [] h = tt
no_pair R (x ∷ xs) h = let p = or_parts (list_any (R x) xs) (any_pair R xs) h in (none_with (R x) xs p.0, no_pair R xs p.1)

-- levels are numbered below their count
run_below : (n m : ℕ) (ts : List SeenTable) (rest : List Placed) → n < m → AllByRecursion (λ p. p.level < m) rest → AllByRecursion (λ p. p.level < m) (placed_in n ts ++ rest)
run_below n m [] rest lt h = h
run_below n m (t ∷ ts) rest lt h = (lt, run_below n m ts rest lt h)

levels_below : (n m : ℕ) (levels : Levels) → n + length levels ≤ m → AllByRecursion (λ p. p.level < m) (placed_from n (shown_levels levels))
levels_below n m [] le = tt
levels_below n m (runs ∷ levels) le = subst (AllByRecursion (λ p. p.level < m)) (sym (placed_cons n runs levels)) (run_below n m (tables_of runs) (placed_from (n + 1) (shown_levels levels)) (omega arith) (levels_below (n + 1) m levels (omega arith)))

order_cases : (a b u v : Bool) → ((not a && b && u) || (a && not b && v)) ≡ false → (a ≡ false → b ≡ true → u ≡ false) × (a ≡ true → b ≡ false → v ≡ false)
order_cases false true u v h = (λ x y. (or_parts u false h).0, λ x y. absurd (cc x))
order_cases false false u v h = (λ x y. absurd (cc y), λ x y. absurd (cc x))
order_cases true true u v h = (λ x y. absurd (cc x), λ x y. absurd (cc y))
order_cases true false u v h = (λ x y. absurd (cc x), λ x y. h)

below_cases : (e a b w : Bool) → (e && (a && not b && w)) ≡ false → e ≡ true → a ≡ true → b ≡ false → w ≡ false
below_cases true true false w h x y z = h
below_cases true true true w h x y z = absurd (cc z)
below_cases true false b w h x y z = absurd (cc y)
below_cases false a b w h x y z = absurd (cc x)

not_unchosen : (b : Bool) → (b ≡ false → ⊥) → b ≡ true
not_unchosen true f = refl
not_unchosen false f = absurd (f refl)

from_leb : (m n : ℕ) → leb m n ≡ false → n < m
from_leb m n h = grind (arith, nat_tests)

from_ltb : (m n : ℕ) → ltb m n ≡ false → n ≤ m
from_ltb m n h = grind (arith, nat_tests)

pub from_eqb : (m n : ℕ) → eqb m n ≡ true → m ≡ n
from_eqb m n h = grind (arith, nat_tests)

not_eqb : (m n : ℕ) → eqb m n ≡ false → m ≡ n → ⊥
not_eqb m n h e = grind (arith, nat_tests)

-- what one table may be beside another, if nothing is wrong between them
pair : (to : ℕ) (ids : List ℕ) (p q : Placed) → is_bad OutOfOrder to ids p q ≡ false → is_bad StandsBelow to ids p q ≡ false → q.level < 7 → overlap p.table.range q.table.range ≡ true → PairAllowed to (among ids) (eqb to 6) p q
pair to ids p q order below lt o =
    let f : is_fault OutOfOrder to ids p q ≡ false = subst (λ b. (b && is_fault OutOfOrder to ids p q) ≡ false) o order in
    let g : is_fault StandsBelow to ids p q ≡ false = subst (λ b. (b && is_fault StandsBelow to ids p q) ≡ false) o below in
    let c = order_cases (among ids p.table.id) (among ids q.table.id) (leb to p.level) (ltb q.level to) f in
    record {
      order_before = λ a b. from_leb to p.level (c.0 a b);
      order_behind = λ a b. from_ltb q.level to (c.1 a b);
      eviction = λ e a. not_unchosen (among ids q.table.id) (λ b.
          let u : to ≤ q.level = from_ltb q.level to (c.1 a b) in
          let v : to ≡ 6 = from_eqb to 6 e in
          let w = below_cases (eqb to 6) (among ids p.table.id) (among ids q.table.id) (eqb q.level 6) g e a b in
          not_eqb q.level 6 w (omega arith));
    }

all_with : (to : ℕ) (ids : List ℕ) (p : Placed) (qs : List Placed) → AllByRecursion (λ q. is_bad OutOfOrder to ids p q ≡ false) qs → AllByRecursion (λ q. is_bad StandsBelow to ids p q ≡ false) qs → AllByRecursion (λ q. q.level < 7) qs → AllByRecursion (λ q. overlap p.table.range q.table.range ≡ true → PairAllowed to (among ids) (eqb to 6) p q) qs
all_with to ids p [] f g h = tt
all_with to ids p (q ∷ qs) f g h = (λ o. pair to ids p q f.0 g.0 h.0 o, all_with to ids p qs f.1 g.1 h.1)

all_pairs : (to : ℕ) (ids : List ℕ) (ps : List Placed) → EachPair (λ p q. is_bad OutOfOrder to ids p q ≡ false) ps → EachPair (λ p q. is_bad StandsBelow to ids p q ≡ false) ps → AllByRecursion (λ q. q.level < 7) ps → IsAllowed to (among ids) (eqb to 6) ps
all_pairs to ids [] f g h = tt
all_pairs to ids (p ∷ ps) f g h = (all_with to ids p ps f.0 g.0 h.1, all_pairs to ids ps f.1 g.1 h.1)

none_holds : (reasons : List (Bool × Why)) → first_of reasons ≡ None → AllByRecursion (λ r. r.0 ≡ false) reasons
none_holds [] h = tt
none_holds ((b, y) ∷ reasons) h = elim b as (λ c. cond c (Some y) (first_of reasons) ≡ None → (c ≡ false) × AllByRecursion (λ r. r.0 ≡ false) reasons) [
  | true ↦ λ g. absurd (cc g)
  | false ↦ λ g. (refl, none_holds reasons g)
] h

unless_drop : (d b : Bool) → (not d && b) ≡ false → d ≡ false → b ≡ false
unless_drop true b h e = absurd (cc e)
unless_drop false b h e = h

-- where nothing is wrong between two tables, the choice is one that the reads allow
pub allowed : (ids : List ℕ) (to : ℕ) (levels : Levels) → length levels ≡ 7 → any_bad OutOfOrder to ids levels ≡ false → any_bad StandsBelow to ids levels ≡ false → IsAllowed to (among ids) (eqb to 6) (placed_of levels)
allowed ids to levels seven order below =
    all_pairs to ids (placed_of levels)
    (no_pair (is_bad OutOfOrder to ids) (placed_of levels) order)
    (no_pair (is_bad StandsBelow to ids) (placed_of levels) below)
    (levels_below 0 7 levels (omega arith))

-- and one that no reason of a merge or a move speaks against is such
pub allowed_first : (kind : Kind) (ids : List ℕ) (to : ℕ) (hidden : List ℕ) (levels : Levels) → length levels ≡ 7 → first_reason_of kind ids to hidden levels ≡ None → is_drop kind ≡ false → IsAllowed to (among ids) (eqb to 6) (placed_of levels)
allowed_first kind ids to hidden levels seven none merges =
    let h = none_holds (reasons_of kind ids to hidden levels) none in
    allowed ids to levels seven
    (unless_drop (is_drop kind) (any_bad OutOfOrder to ids levels) h.1.1.1.1.1.0 merges)
    (unless_drop (is_drop kind) (any_bad StandsBelow to ids levels) h.1.1.1.1.1.1.0 merges)

-- ---- moves

with_less : (to : ℕ) (chosen : ℕ → Bool) (evict : Bool) (p q : Placed) → PairAllowed to chosen evict p q → PairAllowed to chosen false p q
with_less to chosen evict p q h = record { order_before = h.order_before; order_behind = h.order_behind; eviction = λ e. absurd (cc e) }

each_less : (to : ℕ) (chosen : ℕ → Bool) (evict : Bool) (p : Placed) (ps : List Placed) → AllByRecursion (λ q. overlap p.table.range q.table.range ≡ true → PairAllowed to chosen evict p q) ps → AllByRecursion (λ q. overlap p.table.range q.table.range ≡ true → PairAllowed to chosen false p q) ps
each_less to chosen evict p [] h = tt
each_less to chosen evict p (q ∷ ps) h = (λ o. with_less to chosen evict p q (h.0 o), each_less to chosen evict p ps h.1)

-- without an eviction less is asked
pub without_eviction : (to : ℕ) (chosen : ℕ → Bool) (evict : Bool) (ps : List Placed) → IsAllowed to chosen evict ps → IsAllowed to chosen false ps
without_eviction to chosen evict [] h = tt
without_eviction to chosen evict (p ∷ ps) h = (each_less to chosen evict p ps h.0, without_eviction to chosen evict ps h.1)

no_clash : (o a b : Bool) → (o && (a && b)) ≡ false → a ≡ true → b ≡ true → o ≡ false
no_clash false a b h x y = refl
no_clash true true true h x y = absurd (cc h)
no_clash true false b h x y = absurd (cc x)
no_clash true true false h x y = absurd (cc y)

apart_with : (ids : List ℕ) (t : SeenTable) (ts : List SeenTable) → among ids t.id ≡ true → AllByRecursion (λ u. is_clash ids t u ≡ false) ts → AllByRecursion (λ u. overlap (range t) (range u) ≡ false) (chosen_in ids ts)
apart_with ids t [] c h = tt
apart_with ids t (u ∷ ts) c h = elim (among ids u.id) as (λ b. among ids u.id ≡ b → AllByRecursion (λ u. overlap (range t) (range u) ≡ false) (cond b (u ∷ chosen_in ids ts) (chosen_in ids ts))) [
  | true ↦ λ q. (no_clash (overlap (range t) (range u)) (among ids t.id) (among ids u.id) h.0 c q, apart_with ids t ts c h.1)
  | false ↦ λ q. apart_with ids t ts c h.1
] refl

pub apart_all : (ids : List ℕ) (ts : List SeenTable) → any_pair (is_clash ids) ts ≡ false → AreApart (chosen_in ids ts)
apart_all ids [] h = tt
apart_all ids (t ∷ ts) h =
    let p = or_parts (list_any (is_clash ids t) ts) (any_pair (is_clash ids) ts) h in
    elim (among ids t.id) as (λ b. among ids t.id ≡ b → AreApart (cond b (t ∷ chosen_in ids ts) (chosen_in ids ts))) [
      | true ↦ λ q. (apart_with ids t ts q (none_with (is_clash ids t) ts p.0), apart_all ids ts p.1)
      | false ↦ λ q. apart_all ids ts p.1
    ] refl

and_right : (a b : Bool) → (a && b) ≡ false → a ≡ true → b ≡ false
and_right true b h e = h
and_right false b h e = absurd (cc e)

move_no_drop : (kind : Kind) → is_move kind ≡ true → is_drop kind ≡ false
move_no_drop Merge h = refl
move_no_drop Move h = refl
move_no_drop Drop h = absurd (cc h)

-- a move that no reason speaks against may be made
pub movable_first : (kind : Kind) (ids : List ℕ) (to : ℕ) (hidden : List ℕ) (levels : Levels) → length levels ≡ 7 → first_reason_of kind ids to hidden levels ≡ None → is_move kind ≡ true → IsMovable to ids levels
movable_first kind ids to hidden levels seven none moves =
    let h = none_holds (reasons_of kind ids to hidden levels) none in
    record {
      apart = apart_all ids (all_of levels) (and_right (is_move kind) (any_clash ids levels) h.1.1.1.0 moves);
      allowed = without_eviction to (among ids) (eqb to 6) (placed_of levels) (allowed_first kind ids to hidden levels seven none (move_no_drop kind moves));
    }

none_missing : (ids : List ℕ) (levels : Levels) → list_any (λ id. not (is_there levels id)) ids ≡ false → AreThere levels ids
none_missing [] levels h = tt
none_missing (id ∷ ids) levels h =
    let p = or_parts (not (is_there levels id)) (list_any (λ id. not (is_there levels id)) ids) h in
    (not_false (is_there levels id) p.0, none_missing ids levels p.1)
  where
    not_false : (b : Bool) → not b ≡ false → b ≡ true
    not_false true h = refl
    not_false false h = absurd (cc h)

none_absent : (ids : List ℕ) (levels : Levels) → AreThere levels ids → list_any (λ id. not (is_there levels id)) ids ≡ false
none_absent [] levels h = refl
none_absent (id ∷ ids) levels h = rw h.0 (none_absent ids levels h.1)

pub missing_none : (ids : List ℕ) (levels : Levels) (b : Bool) → b ≡ list_any (λ id. not (is_there levels id)) ids → (b ≡ false) ↔ AreThere levels ids
missing_none ids levels b is = (λ h. none_missing ids levels (sym is ∙ h), λ there. is ∙ none_absent ids levels there)

pub there_first : (kind : Kind) (ids : List ℕ) (to : ℕ) (hidden : List ℕ) (levels : Levels) → first_reason_of kind ids to hidden levels ≡ None → AreThere levels ids
there_first kind ids to hidden levels none = none_missing ids levels (none_holds (reasons_of kind ids to hidden levels) none).1.0

-- ---- at the end of a merge

pub stale_shown : (all : Bool) (inputs : List SeenTable) (levels : Levels) → (IsTrue all ↔ AllStand levels inputs) → (not all ≡ false) ↔ AllStand levels inputs
stale_shown all inputs levels h = (λ n. h.0 (to_true all n), λ s. from_true all (h.1 s))
  where
    to_true : (b : Bool) → not b ≡ false → IsTrue b
    to_true true h = refl
    to_true false h = absurd (cc h)

    from_true : (b : Bool) → IsTrue b → not b ≡ false
    from_true true h = refl
    from_true false h = absurd (cc h)

pub allowed_last : (stale : Bool) (ids : List ℕ) (to : ℕ) (levels : Levels) → length levels ≡ 7 → last_reason_of stale ids to levels ≡ None → IsAllowed to (among ids) (eqb to 6) (placed_of levels)
allowed_last stale ids to levels seven none =
    let h = none_holds ((stale, Stale) ∷ (leb 7 to, NoSuchLevel) ∷ (any_bad OutOfOrder to ids levels, Order) ∷ (any_bad StandsBelow to ids levels, Eviction) ∷ []) none in
    allowed ids to levels seven h.1.1.0 h.1.1.1.0

pub level_last : (stale : Bool) (ids : List ℕ) (to : ℕ) (levels : Levels) → last_reason_of stale ids to levels ≡ None → to < 7
level_last stale ids to levels none = from_leb 7 to (none_holds ((stale, Stale) ∷ (leb 7 to, NoSuchLevel) ∷ (any_bad OutOfOrder to ids levels, Order) ∷ (any_bad StandsBelow to ids levels, Eviction) ∷ []) none).1.0

pub stands_last : (inputs : List SeenTable) (ids : List ℕ) (to : ℕ) (levels : Levels) (why : Option Why) → IsLastReason inputs ids to levels why → why ≡ None → AllStand levels inputs
stands_last inputs ids to levels why is none =
    let h = none_holds ((is.0, Stale) ∷ (leb 7 to, NoSuchLevel) ∷ (any_bad OutOfOrder to ids levels, Order) ∷ (any_bad StandsBelow to ids levels, Eviction) ∷ []) (sym is.2 ∙ none) in
    is.1.0 h.0
