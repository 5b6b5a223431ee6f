-- Steps that keep the order: usual ones do, and so do the first so many.
use Rattle.std.proofs.Common.{◌≡◌, ⊎_elim, inl, inr, ℕ, zero, suc, ◌+◌, ◌≤◌, max, arith, List, [], ◌∷◌, ◌++◌, map, take, length, subst, sym}
use Rattle.std.specs.List.{AllByRecursion}
use Rattle.lsm_runs.specs.Entries.{Entry, above}
use Rattle.lsm_runs.specs.Keys.{Bytes}
use Rattle.lsm_runs.specs.Members.{IsIn}
use Rattle.lsm_runs.specs.Rising.{Drawing, Silent, Own, Raises, Reserves, Draws, Standing, At, UpTo, most, moved, unused, highest, MayDraw, RisesFrom, WeakOnce}
use Rattle.lsm_runs.specs.declared.steps.Step.{Step}
use Rattle.lsm_runs.specs.declared.steps.Step.TheVariants.{ClearActiveMemtable}
use Rattle.lsm_runs.specs.declared.steps.Taken.{Taken}
use Rattle.lsm_runs.specs.Drawing.{drawing_of, keys_set, keys_weak, asks_of}
use Rattle.example_crash.specs.Single.{KeepsOrder, KeepsOrderAbove}
use Rattle.example_crash.specs.Survival.{IsUsual, steps_taken}
use Rattle.example_crash.proofs.Usual.{usual_plain, usual_rises, usual_weak, first_usual}

pub usual_keeps : (opened : List Entry) (counter : ℕ) (steps : List Step) → AllByRecursion IsUsual steps → KeepsOrder opened counter steps
usual_keeps opened counter steps usual = record {
  plain = usual_plain steps usual;
  rise = record { numbers = usual_rises steps usual (above opened) (At counter); weak = usual_weak opened [] steps usual };
}

-- so do those of them that were taken
pub usual_takes : (opened : List Entry) (counter : ℕ) (steps : List Step) (taken : Taken) → AllByRecursion IsUsual steps → KeepsOrder opened counter (steps_taken steps taken)
usual_takes opened counter steps taken usual = usual_keeps opened counter (steps_taken steps taken) (first_usual (length taken.outcomes.items) steps usual)

-- ---- the first so many

in_all : (x : Step) (n : ℕ) (steps : List Step) → IsIn x (take n steps) → IsIn x steps
in_all x zero steps i = absurd i
in_all x (suc n) [] i = absurd i
in_all x (suc n) (y ∷ steps) i = ⊎_elim (λ (e : y ≡ x). inl e) (λ (j : IsIn x (take n steps)). inr (in_all x n steps j)) i

first_rises : (n : ℕ) (steps : List Step) (low : ℕ) (c : Standing) → RisesFrom low c (map drawing_of steps) → RisesFrom low c (map drawing_of (take n steps))
first_rises zero steps low c h = tt
first_rises (suc n) [] low c h = tt
first_rises (suc n) (x ∷ steps) low c h = (h.0, first_rises n steps (unused (drawing_of x) low c) (moved (drawing_of x) c) h.1)

first_weak : (opened : List Entry) (n : ℕ) (steps : List Step) (before : List Bytes) → WeakOnce opened before (map asks_of steps) → WeakOnce opened before (map asks_of (take n steps))
first_weak opened zero steps before h = tt
first_weak opened (suc n) [] before h = tt
first_weak opened (suc n) (x ∷ steps) before h = (h.0, first_weak opened n steps (keys_set x ++ before) h.1)

pub first_keeps : (opened : List Entry) (counter n : ℕ) (steps : List Step) → KeepsOrder opened counter steps → KeepsOrder opened counter (take n steps)
first_keeps opened counter n steps k = record {
  plain = λ i. k.plain (in_all ClearActiveMemtable n steps i);
  rise = record { numbers = first_rises n steps (above opened) (At counter) k.rise.numbers; weak = first_weak opened n steps [] k.rise.weak };
}

-- ---- where the counter stands at most

most_grows : (call : Drawing) (low : ℕ) (c : Standing) → MayDraw call low c → most c ≤ most (moved call c)
most_grows Silent low c h = omega arith
most_grows (Own n) low c h = omega arith
most_grows (Raises n) low c h = h
most_grows Reserves low (At n) h = omega arith
most_grows Reserves low (UpTo n) h = omega arith
most_grows Draws low c h = omega arith

highest_above : (calls : List Drawing) (low : ℕ) (c : Standing) → RisesFrom low c calls → most c ≤ highest c calls
highest_above [] low c h = omega arith
highest_above (call ∷ calls) low c h = let one = most_grows call low c h.0 in let rest = highest_above calls (unused call low c) (moved call c) h.1 in omega (arith, one, rest)

pub first_highest : (n : ℕ) (steps : List Step) (low : ℕ) (c : Standing) → RisesFrom low c (map drawing_of steps) → highest c (map drawing_of (take n steps)) ≤ highest c (map drawing_of steps)
first_highest zero steps low c h = highest_above (map drawing_of steps) low c h
first_highest (suc n) [] low c h = omega arith
first_highest (suc n) (x ∷ steps) low c h = first_highest n steps (unused (drawing_of x) low c) (moved (drawing_of x) c) h.1

-- ---- over less

draws_lower : (call : Drawing) (low lower : ℕ) (c : Standing) → lower ≤ low → MayDraw call low c → MayDraw call lower c
draws_lower Silent low lower c le h = tt
draws_lower (Own n) low lower (At m) le h = let least = h.0 in (omega (arith, le, least), h.1)
draws_lower (Own n) low lower (UpTo m) le h = absurd h
draws_lower (Raises n) low lower c le h = h
draws_lower Reserves low lower c le h = h
draws_lower Draws low lower c le h = tt

unused_lower : (call : Drawing) (low lower : ℕ) (c : Standing) → lower ≤ low → unused call lower c ≤ unused call low c
unused_lower Silent low lower c le = le
unused_lower (Own n) low lower c le = omega arith
unused_lower (Raises n) low lower c le = le
unused_lower Reserves low lower c le = le
unused_lower Draws low lower c le = omega arith

rises_lower : (calls : List Drawing) (low lower : ℕ) (c : Standing) → lower ≤ low → RisesFrom low c calls → RisesFrom lower c calls
rises_lower [] low lower c le h = tt
rises_lower (call ∷ calls) low lower c le h = (draws_lower call low lower c le h.0, rises_lower calls (unused call low c) (unused call lower c) (moved call c) (unused_lower call low lower c le) h.1)

none_weak : (opened : List Entry) (before : List Bytes) (steps : List Step) → AllByRecursion (λ x. keys_weak x ≡ []) steps → WeakOnce opened before (map asks_of steps)
none_weak opened before [] h = tt
none_weak opened before (x ∷ steps) h = (subst (AllByRecursion _) (sym h.0) tt, none_weak opened (keys_set x ++ before) steps h.1)

pub above_keeps : (low from : ℕ) (opened : List Entry) (counter : ℕ) (steps : List Step) → above opened ≤ low → counter ≡ max from (above opened) → KeepsOrderAbove low from steps → KeepsOrder opened counter steps
above_keeps low from opened counter steps le starts k =
    let enough = k.above_low in
    let stands : from ≡ counter = omega (arith, le, starts, enough) in
    record {
      plain = k.plain;
      rise = record { numbers = subst (λ (n : ℕ). RisesFrom (above opened) (At n) (map drawing_of steps)) stands (rises_lower (map drawing_of steps) low (above opened) (At from) le k.numbers); weak = none_weak opened [] steps k.weak };
    }
