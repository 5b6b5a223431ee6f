-- The bytes of unexpired tables, and which of them the overshoot takes.
use Rattle.std.proofs.Common.{◌≡◌, ℕ, ◌+◌, ◌<◌, ◌≤◌, ◌^◌, Bool, true, false, cond, not, ◌&&◌, ◌||◌, eqb, ltb, List, [], ◌∷◌, ◌++◌, length, get_or, take, drop, filter, map, append-nil, sum_by, refl, sym, ap, ap₂, ◌∙◌, ⊎_elim, subst, arith}
use Rattle.std.proofs.lemmas.Bool.{false≢true, cases_lt}
use Rattle.std.proofs.lemmas.Bool.Decides.{nat_tests}
use Rattle.std.proofs.lemmas.List.{drop_more, take-append-drop}
use Rattle.std.proofs.lemmas.List.Elements.{filter_more, filter-append}
use Rattle.std.proofs.lemmas.List.Sums.{sum_by-append, sum_by-cons}
use Rattle.lsm_tables.specs.Tables.{SeenTable}
use Rattle.lsm_model.specs.Steps.{among}
use Rattle.lsm_checks.specs.Choices.{AreIdsOf}
use Rattle.lsm_pick.specs.declared.choice.Choice.{Choice}
use Rattle.lsm_pick.specs.declared.choice.Choice.TheVariants.{DoNothing}
use Rattle.lsm_versions.specs.Levels.{bytes_of}
use Rattle.lsm_pick.specs.declared.fifo.Fifo.{Fifo}
use Rattle.lsm_pick.specs.Tables.{size, bytes_below, AddsIds}
use Rattle.lsm_pick.specs.Picks.{IsDrop}
use Rattle.lsm_pick.specs.Fifo.{is_expired, fresh, older_bytes, surplus, bytes_at, IsTurn, is_due, DropsJust}

one_sum : (f : SeenTable → ℕ) (b : Bool) (x : SeenTable) → sum_by f (cond b (x ∷ []) []) ≡ cond b (f x) 0
one_sum f true x = omega arith
one_sum f false x = refl

sum_more :
    (f : SeenTable → ℕ) (p : SeenTable → Bool) (ts : List SeenTable) (i : ℕ) (x : SeenTable) → i < length ts → x ≡ get_or ts i x →
    sum_by f (filter p (take (i + 1) ts)) ≡ sum_by f (filter p (take i ts)) + cond (p x) (f x) 0
sum_more f p ts i x lt read =
    ap (sum_by f) (filter_more p ts i x lt)
    ∙ (sum_by-append f (filter p (take i ts)) (cond (p (get_or ts i x)) (get_or ts i x ∷ []) [])
    ∙ ap (λ y. sum_by f (filter p (take i ts)) + y) (ap (λ z. sum_by f (cond (p z) (z ∷ []) [])) (sym read) ∙ one_sum f (p x) x))

pub bytes_more :
    (rule : Fifo) (ts : List SeenTable) (i : ℕ) (x : SeenTable) → i < length ts → x ≡ get_or ts i x →
    bytes_of (fresh rule (take (i + 1) ts)) ≡ bytes_of (fresh rule (take i ts)) + cond (not (is_expired rule x)) (size x) 0
bytes_more rule ts i x lt read = sum_more size (λ t. not (is_expired rule t)) ts i x lt read

pub below_more :
    (rule : Fifo) (moment : ℕ) (ts : List SeenTable) (i : ℕ) (x : SeenTable) → i < length ts → x ≡ get_or ts i x →
    bytes_below moment (fresh rule (take (i + 1) ts)) ≡ bytes_below moment (fresh rule (take i ts)) + cond (not (is_expired rule x)) (cond (ltb x.created_at moment) (size x) 0) 0
below_more rule moment ts i x lt read = sum_more (λ t. cond (ltb t.created_at moment) (size t) 0) (λ t. not (is_expired rule t)) ts i x lt read

pub at_more :
    (rule : Fifo) (moment : ℕ) (ts : List SeenTable) (i : ℕ) (x : SeenTable) → i < length ts → x ≡ get_or ts i x →
    bytes_at moment (fresh rule (take (i + 1) ts)) ≡ bytes_at moment (fresh rule (take i ts)) + cond (not (is_expired rule x)) (cond (eqb x.created_at moment) (size x) 0) 0
at_more rule moment ts i x lt read = sum_more (λ t. cond (eqb t.created_at moment) (size t) 0) (λ t. not (is_expired rule t)) ts i x lt read

-- ---- bytes by moments

few_more : (a b c s : ℕ) → b ≤ c → cond (ltb a b) s 0 ≤ cond (ltb a c) s 0
few_more a b c s le = ⊎_elim
    (λ lt. rw (yes a b lt, yes a c (omega (arith, lt, le))) (omega arith))
    (λ ge. rw (no_lt a b ge) (omega arith)) (cases_lt a b)
  where
    yes : (a b : ℕ) → a < b → ltb a b ≡ true
    yes a b h = grind (arith, nat_tests)

    no_lt : (a b : ℕ) → b ≤ a → ltb a b ≡ false
    no_lt a b h = grind (arith, nat_tests)

pub below_mono : (ts : List SeenTable) (m n : ℕ) → m ≤ n → bytes_below m ts ≤ bytes_below n ts
below_mono [] m n le = omega arith
below_mono (t ∷ ts) m n le =
    let here = few_more t.created_at m n (size t) le in
    let more = below_mono ts m n le in
    let a = sum_by-cons (λ u. cond (ltb u.created_at m) (size u) 0) t ts in
    let b = sum_by-cons (λ u. cond (ltb u.created_at n) (size u) 0) t ts in
    omega (arith, here, more, a, b)

pub below_zero : (ts : List SeenTable) → bytes_below 0 ts ≡ 0
below_zero [] = refl
below_zero (t ∷ ts) =
    let more = below_zero ts in
    let a = sum_by-cons (λ u. cond (ltb u.created_at 0) (size u) 0) t ts in
    let none : cond (ltb t.created_at 0) (size t) 0 ≡ 0 = ap (λ b. cond b (size t) 0) (never t.created_at) in
    omega (arith, more, a, none)
  where
    never : (n : ℕ) → ltb n 0 ≡ false
    never n = grind (arith, nat_tests)

next_one : (a m s : ℕ) → cond (ltb a (m + 1)) s 0 ≡ cond (ltb a m) s 0 + cond (eqb a m) s 0
next_one a m s = grind (arith, nat_tests)

below_next : (ts : List SeenTable) (m : ℕ) → bytes_below (m + 1) ts ≡ bytes_below m ts + bytes_at m ts
below_next [] m = refl
below_next (t ∷ ts) m =
    let here = next_one t.created_at m (size t) in
    let more = below_next ts m in
    let a = sum_by-cons (λ u. cond (ltb u.created_at (m + 1)) (size u) 0) t ts in
    let b = sum_by-cons (λ u. cond (ltb u.created_at m) (size u) 0) t ts in
    let c = sum_by-cons (λ u. cond (eqb u.created_at m) (size u) 0) t ts in
    omega (arith, here, more, a, b, c)

below_around : (m : ℕ) (before : List SeenTable) (t : SeenTable) (after : List SeenTable) → bytes_below m (before ++ t ∷ after) ≡ bytes_below m before + cond (ltb t.created_at m) (size t) 0 + bytes_below m after
below_around m before t after =
    let a = sum_by-append (λ u. cond (ltb u.created_at m) (size u) 0) before (t ∷ after) in
    let b = sum_by-cons (λ u. cond (ltb u.created_at m) (size u) 0) t after in
    omega (arith, a, b)

-- ---- what is due

to_true : (a b : ℕ) → a < b → ltb a b ≡ true
to_true a b h = grind (arith, nat_tests)

to_false : (a b : ℕ) → b ≤ a → ltb a b ≡ false
to_false a b h = grind (arith, nat_tests)

to_same : (a : ℕ) → eqb a a ≡ true
to_same a = grind (arith, nat_tests)

to_other : (a b : ℕ) → b < a → eqb a b ≡ false
to_other a b h = grind (arith, nat_tests)

due_same :
    (over turn older : ℕ) (before : List SeenTable) (t : SeenTable) (after : List SeenTable) → t.created_at < 2 ^ 64 →
    IsTurn over (before ++ t ∷ after) turn → older ≡ bytes_below turn (before ++ t ∷ after) + bytes_at turn before →
    ltb (older_bytes before t after) over ≡ (ltb t.created_at turn || (eqb t.created_at turn && ltb older over))
due_same over turn older before t after small is e =
    let c : ℕ = t.created_at in
    let s : ℕ = size t in
    ⊎_elim
    (λ early. let whole = below_around turn before t after in
    let one = below_mono before (c + 1) turn (omega (arith, early)) in
    let two = below_mono after c turn (omega (arith, early)) in
    let less = is.below in
    to_true (older_bytes before t after) over (omega (arith, whole, one, two, less)) ∙ ap (λ b. b || (eqb c turn && ltb older over)) (sym (to_true c turn early)))
    (λ ge. ⊎_elim
    (λ late. let whole : bytes_below c (before ++ t ∷ after) ≡ bytes_below c before + 0 + bytes_below c after = below_around c before t after ∙ ap (λ b. bytes_below c before + cond b s 0 + bytes_below c after) (to_false c c (omega arith)) in
    let one = below_mono before c (c + 1) (omega arith) in
    let most = is.above c late small in
    to_false (older_bytes before t after) over (omega (arith, whole, one, most))
    ∙ sym (ap₂ (λ a b. a || (b && ltb older over)) (to_false c turn ge) (to_other c turn late)))
    (λ le. let same : c ≡ turn = omega (arith, ge, le) in
    let whole : bytes_below c (before ++ t ∷ after) ≡ bytes_below c before + 0 + bytes_below c after = below_around c before t after ∙ ap (λ b. bytes_below c before + cond b s 0 + bytes_below c after) (to_false c c (omega arith)) in
    let next = below_next before c in
    let now : older ≡ bytes_below c (before ++ t ∷ after) + bytes_at c before = subst (λ (m : ℕ). older ≡ bytes_below m (before ++ t ∷ after) + bytes_at m before) (sym same) e in
    let equal : older_bytes before t after ≡ older = omega (arith, whole, next, now) in
    ap (λ n. ltb n over) equal
    ∙ sym (ap₂ (λ a b. a || (b && ltb older over)) (ap (ltb c) (sym same) ∙ to_false c c (omega arith)) (ap (eqb c) (sym same) ∙ to_same c)))
    (cases_lt turn c))
    (cases_lt t.created_at turn)

-- one table of the run more
abbrev Rest : Fifo → ℕ → List SeenTable → ℕ → List SeenTable
Rest rule over run i = surplus over (fresh rule (take i run)) (fresh rule (drop i run))

parted : (rule : Fifo) (run : List SeenTable) (i : ℕ) → fresh rule run ≡ fresh rule (take i run) ++ fresh rule (drop i run)
parted rule run i = ap (fresh rule) (sym (take-append-drop i run)) ∙ filter-append (λ t. not (is_expired rule t)) (take i run) (drop i run)

pub surplus_step :
    (rule : Fifo) (over turn older : ℕ) (run : List SeenTable) (i : ℕ) (t : SeenTable) → i < length run → t ≡ get_or run i t → t.created_at < 2 ^ 64 →
    IsTurn over (fresh rule run) turn → older ≡ bytes_below turn (fresh rule run) + bytes_at turn (fresh rule (take i run)) →
    Rest rule over run i ≡ cond (is_due rule over turn older t) (t ∷ Rest rule over run (i + 1)) (Rest rule over run (i + 1))
surplus_step rule over turn older run i t lt read small is e =
    let kept = λ (u : SeenTable). not (is_expired rule u) in
    let B = fresh rule (take i run) in
    let A = fresh rule (drop (i + 1) run) in
    let front : fresh rule (take (i + 1) run) ≡ B ++ cond (kept t) (t ∷ []) [] =
    filter_more kept run i t lt ∙ ap (λ u. B ++ cond (kept u) (u ∷ []) []) (sym read) in
    let behind : fresh rule (drop i run) ≡ cond (kept t) (t ∷ A) A =
    ap (fresh rule) (drop_more run i t lt ∙ ap (λ u. u ∷ drop (i + 1) run) (sym read)) in
    elim (is_expired rule t) as (λ b. is_expired rule t ≡ b → Rest rule over run i ≡ cond (not b && (ltb t.created_at turn || (eqb t.created_at turn && ltb older over))) (t ∷ Rest rule over run (i + 1)) (Rest rule over run (i + 1))) [
      | true ↦ λ x.
          let f : fresh rule (take (i + 1) run) ≡ B = front ∙ (ap (λ b. B ++ cond (not b) (t ∷ []) []) x ∙ append-nil B) in
          let g : fresh rule (drop i run) ≡ A = behind ∙ ap (λ b. cond (not b) (t ∷ A) A) x in
          ap (surplus over B) g ∙ ap (λ l. surplus over l A) (sym f)
      | false ↦ λ x.
          let f : fresh rule (take (i + 1) run) ≡ B ++ t ∷ [] = front ∙ ap (λ b. B ++ cond (not b) (t ∷ []) []) x in
          let g : fresh rule (drop i run) ≡ t ∷ A = behind ∙ ap (λ b. cond (not b) (t ∷ A) A) x in
          let whole : fresh rule run ≡ B ++ t ∷ A = parted rule run i ∙ ap (λ l. B ++ l) g in
          let due = due_same over turn older B t A small (subst (λ l. IsTurn over l turn) whole is) (subst (λ l. older ≡ bytes_below turn l + bytes_at turn B) whole e) in
          ap (surplus over B) g
          ∙ (ap (λ b. cond b (t ∷ surplus over (B ++ t ∷ []) A) (surplus over (B ++ t ∷ []) A)) due
          ∙ ap (λ l. cond (ltb t.created_at turn || (eqb t.created_at turn && ltb older over)) (t ∷ surplus over l A) (surplus over l A)) (sym f))
    ] refl

-- ---- ids of those that are due

or_tail : (x e a : Bool) → ((x || (e || false)) || a) ≡ (x || (e || a))
or_tail true e a = refl
or_tail false true a = refl
or_tail false false a = refl

or_rest : (x a : Bool) → ((x || false) || a) ≡ (x || a)
or_rest true a = refl
or_rest false a = refl

pub due_moves :
    (d : Bool) (t : SeenTable) (old new : List SeenTable) (x y : List ℕ) (k : ℕ) → old ≡ cond d (t ∷ new) new → AddsIds (cond d (t ∷ []) []) x y →
    (among y k || among (map (λ u. u.id) new) k) ≡ (among x k || among (map (λ u. u.id) old) k)
due_moves true t old new x y k e f =
    let ids = λ (u : SeenTable). u.id in
    ap (λ b. b || among (map ids new) k) (f k) ∙ (or_tail (among x k) (eqb k t.id) (among (map ids new) k) ∙ ap (λ l. among x k || among (map ids l) k) (sym e))
due_moves false t old new x y k e f =
    let ids = λ (u : SeenTable). u.id in
    ap (λ b. b || among (map ids new) k) (f k) ∙ (or_rest (among x k) (among (map ids new) k) ∙ ap (λ l. among x k || among (map ids l) k) (sym e))

-- no overshoot takes nothing
pub none_over : (before ts : List SeenTable) → surplus 0 before ts ≡ []
none_over before [] = refl
none_over before (t ∷ ts) = ap (λ b. cond b (t ∷ surplus 0 (before ++ t ∷ []) ts) (surplus 0 (before ++ t ∷ []) ts)) (never (older_bytes before t ts)) ∙ none_over (before ++ t ∷ []) ts
  where
    never : (n : ℕ) → ltb n 0 ≡ false
    never n = grind (arith, nat_tests)

-- ---- a drop of just these

or_first : (a b : Bool) → a ≡ true → (a || b) ≡ true
or_first a b h = rw h refl

pub drops_none : (ids : List ℕ) (ts : List SeenTable) → AreIdsOf ids ts → length ids ≡ 0 → DropsJust ts DoNothing
drops_none ids [] names e = tt
drops_none [] (t ∷ ts) names e = false≢true (names t.id ∙ or_first (eqb t.id t.id) (among (map (λ u. u.id) ts) t.id) (to_same t.id))
drops_none (i ∷ ids) (t ∷ ts) names e = absurd (omega (arith, e))

pub drops_some : (ids : List ℕ) (ts : List SeenTable) (choice : Choice) → AreIdsOf ids ts → (length ids ≡ 0 → ⊥) → IsDrop choice ts → DropsJust ts choice
drops_some [] ts choice names some is = absurd (some refl)
drops_some (i ∷ ids) [] choice names some is = absurd (false≢true (sym (names i) ∙ or_first (eqb i i) (among ids i) (to_same i)))
drops_some (i ∷ ids) (t ∷ ts) choice names some is = is
