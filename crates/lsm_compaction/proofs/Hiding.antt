-- Open merges: what is hidden where one is added or ends.
use Rattle.std.proofs.Common.{◌≡◌, ℕ, ◌+◌, ◌<◌, zero, suc, ◌||◌, ◌&&◌, not, Bool, true, false, cond, eqb, nat_eq, Option, Some, None, MatchOption, MatchBool, Decides, List, [], ◌∷◌, ◌++◌, length, get_or, take, drop, remove, refl, sym, ◌∙◌, ap, subst, inl, inr, arith}
use Rattle.std.specs.List.{AllByRecursion, AllWithin, HoldsAt, IsDistinct}
use Rattle.std.proofs.lemmas.Bool.{eq-eqb}
use Rattle.std.proofs.lemmas.Bool.Decides.{nat_tests}
use Rattle.std.proofs.lemmas.List.{take-append-drop}
use Rattle.std.proofs.lemmas.List.Folds.{list_any-append}
use Rattle.std.proofs.lemmas.Map.Keys.{IsDistinct-push}
use Rattle.std.specs.Cmp.{nat_eq_equiv}
use Rattle.std.proofs.Math.Seq.{drop-cons}
use Rattle.lsm_below.specs.Each.{each_append, each_filter}
use Rattle.lsm_below.specs.Members.{IsIn, each_in}
use Rattle.lsm_below.specs.Optimizes.{EachPair}
use Rattle.lsm_model.specs.Steps.{among}
use Rattle.lsm_versions.specs.TableLaws.{map_append, or_none, or_parts, flips}
use Rattle.lsm_compaction.specs.Merges.{SeenCompaction}
use Rattle.lsm_compaction.specs.OpenMerges.{SeenOpenMerge, numbers_of, hides, IsMergeOf, IsOpenIn, without, ShareNoTable, AreApart, AreHidden}

-- ---- places

each_within : {A : Type 0} (P : A → Type 0) (xs : List A) → AllWithin P xs 0 (length xs) → AllByRecursion P xs
each_within P [] h = tt
each_within P (x ∷ xs) h = (h 0 x (omega arith) (omega arith), each_within P xs (λ k d low high. h (suc k) d (omega arith) (omega arith)))

in_at : {A : Type 0} (xs : List A) (k : ℕ) (d : A) → k < length xs → IsIn (get_or xs k d) xs
in_at [] k d lt = absurd (omega arith)
in_at (x ∷ xs) zero d lt = inl refl
in_at (x ∷ xs) (suc k) d lt = inr (in_at xs k d (omega arith))

-- an answer of `any` says whether a job is open
pub found_open : (job : SeenCompaction) (ms : List SeenOpenMerge) (r : Bool) → MatchBool r ((k : ℕ) × (k < length ms) × HoldsAt (IsMergeOf job) ms k) (AllWithin (λ m. IsMergeOf job m → ⊥) ms 0 (length ms)) → Decides r (IsOpenIn job ms)
found_open job [] true h = absurd (omega (arith, h.1))
found_open job (m ∷ ms) true h = (λ _. (get_or (m ∷ ms) h.0 m, in_at (m ∷ ms) h.0 m h.1, h.2 m), λ _. refl)
found_open job ms false h =
    (λ e. cc e, λ w. absurd (each_in (λ m. IsMergeOf job m → ⊥) ms w.0 (each_within (λ m. IsMergeOf job m → ⊥) ms h) w.1 w.2))

-- ---- the place of a number

none_gone : (n : ℕ) (ms : List SeenOpenMerge) → AllByRecursion (λ m. eqb m.number n ≡ false) ms → without n ms ≡ ms
none_gone n [] h = refl
none_gone n (m ∷ ms) h = ap (λ b. cond (not b) (m ∷ without n ms) (without n ms)) h.0 ∙ ap (λ l. m ∷ l) (none_gone n ms h.1)

-- an answer of `position` is the place of the number
pub found_place : (n : ℕ) (ms : List SeenOpenMerge) (r : Option ℕ) → MatchOption r (AllWithin (λ m. eqb m.number n ≡ false) ms 0 (length ms)) (λ i. (i < length ms) × HoldsAt (λ m. m.number ≡ n) ms i × AllWithin (λ m. eqb m.number n ≡ false) ms 0 i) → MatchOption r (without n ms ≡ ms) (λ at. (at < length ms) × HoldsAt (λ m. m.number ≡ n) ms at)
found_place n ms None h = none_gone n ms (each_within (λ m. eqb m.number n ≡ false) ms h)
found_place n ms (Some i) h = (h.0, h.1)

-- ---- one more

push_pairs : {A : Type 0} (R : A → A → Type 0) (xs : List A) (x : A) → EachPair R xs → AllByRecursion (λ y. R y x) xs → EachPair R (xs ++ x ∷ [])
push_pairs R [] x h p = (tt, tt)
push_pairs R (y ∷ xs) x h p = (each_append (R y) xs (x ∷ []) h.0 (p.0, tt), push_pairs R xs x h.1 p.1)

-- a merge of tables that aren't hidden shares none with those that are open
new_apart : (ms : List SeenOpenMerge) (m : SeenOpenMerge) → ((i : ℕ) → among m.ids i ≡ true → hides ms i ≡ false) → AllByRecursion (λ n. ShareNoTable n m) ms
new_apart [] m free = tt
new_apart (n ∷ ms) m free = (apart, new_apart ms m (λ i h. (or_parts (among n.ids i) (hides ms i) (free i h)).1))
  where
    apart : ShareNoTable n m
    apart i h =
        elim (among m.ids i) as (λ b. among m.ids i ≡ b → b ≡ false) [
          | true ↦ λ q. let z : true ≡ false = sym h ∙ (or_parts (among n.ids i) (hides ms i) (free i q)).0 in cc z
          | false ↦ λ q. refl
        ] refl

pub one_more : (hidden new : List ℕ) (ms : List SeenOpenMerge) (m : SeenOpenMerge) → AreHidden hidden ms → ((i : ℕ) → among m.ids i ≡ true → hides ms i ≡ false) → among (numbers_of ms) m.number ≡ false → ((i : ℕ) → among new i ≡ (among hidden i || among m.ids i)) → AreHidden new (ms ++ m ∷ [])
one_more hidden new ms m known free fresh step = record {
  exact = λ i. step i ∙ ap (λ b. b || among m.ids i) (known.exact i) ∙ ap (λ b. hides ms i || b) (sym (or_none (among m.ids i))) ∙ sym (list_any-append (λ n. among n.ids i) ms (m ∷ []));
  facts = record {
    numbers = subst (IsDistinct nat_eq) (sym (map_append (λ n. n.number) ms (m ∷ []))) (IsDistinct-push nat_eq_equiv (numbers_of ms) m.number known.facts.numbers fresh);
    apart = push_pairs ShareNoTable ms m known.facts.apart (new_apart ms m free);
  };
}

-- ---- one less

-- what holds of each holds of the one at the seam, and of the others
seam_number : (P : ℕ → Type 0) (a b : List SeenOpenMerge) (m : SeenOpenMerge) → AllByRecursion P (numbers_of (a ++ m ∷ b)) → P m.number × AllByRecursion P (numbers_of (a ++ b))
seam_number P [] b m h = (h.0, h.1)
seam_number P (x ∷ a) b m h = let r = seam_number P a b m h.1 in (r.0, (h.0, r.1))

seam_each : {A : Type 0} (P : A → Type 0) (a b : List A) (m : A) → AllByRecursion P (a ++ m ∷ b) → P m × AllByRecursion P (a ++ b)
seam_each P [] b m h = (h.0, h.1)
seam_each P (x ∷ a) b m h = let r = seam_each P a b m h.1 in (r.0, (h.0, r.1))

others_stay : (n : ℕ) (ms : List SeenOpenMerge) → AllByRecursion (λ k. eqb n k ≡ false) (numbers_of ms) → AllByRecursion (λ m. eqb m.number n ≡ false) ms
others_stay n [] h = tt
others_stay n (m ∷ ms) h = (flips m.number n ∙ h.0, others_stay n ms h.1)

seam_without : (a b : List SeenOpenMerge) (m : SeenOpenMerge) → IsDistinct nat_eq (numbers_of (a ++ m ∷ b)) → (without m.number (a ++ m ∷ b) ≡ a ++ b) × IsDistinct nat_eq (numbers_of (a ++ b))
unfolding IsDistinct
seam_without [] b m h =
    (ap (λ t. cond (not t) (m ∷ without m.number b) (without m.number b)) (eq-eqb m.number m.number refl) ∙ none_gone m.number b (others_stay m.number b h.0), h.1)
seam_without (x ∷ a) b m h =
    let first = seam_number (λ k. eqb x.number k ≡ false) a b m h.0 in
    let rest = seam_without a b m h.1 in
    let l = without m.number (a ++ m ∷ b) in
    (ap (λ t. cond (not t) (x ∷ l) l) first.0 ∙ ap (λ l. x ∷ l) rest.0, (first.1, rest.1))

seam_pairs : {A : Type 0} (R : A → A → Type 0) (a b : List A) (m : A) → EachPair R (a ++ m ∷ b) → EachPair R (a ++ b)
seam_pairs R [] b m h = h.1
seam_pairs R (x ∷ a) b m h = ((seam_each (R x) a b m h.0).1, seam_pairs R a b m h.1)

shares_none : (ms : List SeenOpenMerge) (m : SeenOpenMerge) (i : ℕ) → AllByRecursion (ShareNoTable m) ms → among m.ids i ≡ true → hides ms i ≡ false
shares_none [] m i h t = refl
shares_none (n ∷ ms) m i h t = ap (λ b. b || hides ms i) (h.0 i t) ∙ shares_none ms m i h.1 t

-- taking its tables out leaves those of the others
left_hidden : (a b : List SeenOpenMerge) (m : SeenOpenMerge) (i : ℕ) → EachPair ShareNoTable (a ++ m ∷ b) → (hides (a ++ m ∷ b) i && not (among m.ids i)) ≡ hides (a ++ b) i
left_hidden [] b m i h =
    elim (among m.ids i) as (λ t. among m.ids i ≡ t → ((t || hides b i) && not t) ≡ hides b i) [
      | true ↦ λ q. sym (shares_none b m i h.0 q)
      | false ↦ λ q. and_true (hides b i)
    ] refl
  where
    and_true : (b : Bool) → (b && true) ≡ b
    and_true true = refl
    and_true false = refl
left_hidden (x ∷ a) b m i h =
    first (among x.ids i) (hides (a ++ m ∷ b) i) (among m.ids i) ((seam_each (ShareNoTable x) a b m h.0).0 i) ∙ ap (λ t. among x.ids i || t) (left_hidden a b m i h.1)
  where
    first : (x h m : Bool) → (x ≡ true → m ≡ false) → ((x || h) && not m) ≡ (x || (h && not m))
    first true h m apart = ap not (apart refl)
    first false h m apart = refl

-- the merges on both sides of a place
seam_at : (ms : List SeenOpenMerge) (at : ℕ) (m : SeenOpenMerge) → at < length ms → m ≡ get_or ms at m → ms ≡ take at ms ++ m ∷ drop (suc at) ms
seam_at ms at m lt read =
    sym (take-append-drop at ms) ∙ ap (λ l. take at ms ++ l) (drop-cons ms at m lt ∙ ap (λ x. x ∷ drop (suc at) ms) (sym read))

seam_hidden : (hidden new : List ℕ) (a b : List SeenOpenMerge) (m : SeenOpenMerge) → AreHidden hidden (a ++ m ∷ b) → ((i : ℕ) → among new i ≡ (among hidden i && not (among m.ids i))) → AreHidden new (a ++ b)
seam_hidden hidden new a b m known step = record {
  exact = λ i. step i ∙ ap (λ t. t && not (among m.ids i)) (known.exact i) ∙ left_hidden a b m i known.facts.apart;
  facts = record { numbers = (seam_without a b m known.facts.numbers).1; apart = seam_pairs ShareNoTable a b m known.facts.apart };
}

pub one_less : (hidden new : List ℕ) (ms : List SeenOpenMerge) (at : ℕ) (m : SeenOpenMerge) → at < length ms → m ≡ get_or ms at m → AreHidden hidden ms → ((i : ℕ) → among new i ≡ (among hidden i && not (among m.ids i))) → AreHidden new (remove ms at)
one_less hidden new ms at m lt read known step =
    seam_hidden hidden new (take at ms) (drop (suc at) ms) m (subst (AreHidden hidden) (seam_at ms at m lt read) known) step

pub removed_is_without : (ms : List SeenOpenMerge) (at n : ℕ) (m : SeenOpenMerge) → at < length ms → m ≡ get_or ms at m → m.number ≡ n → AreApart ms → remove ms at ≡ without n ms
removed_is_without ms at n m lt read same facts =
    let seam = seam_at ms at m lt read in
    let gone = seam_without (take at ms) (drop (suc at) ms) m (subst (λ l. IsDistinct nat_eq (numbers_of l)) seam facts.numbers) in
    sym gone.0 ∙ ap (without m.number) (sym seam) ∙ ap (λ k. without k ms) same

-- ---- whether a table is in use

pub in_use : (hidden : List ℕ) (ms : List SeenOpenMerge) (empty : Bool) → ((i : ℕ) → among hidden i ≡ hides ms i) → empty ≡ eqb (length hidden) 0 → Decides (not empty) ((i : ℕ) × (hides ms i ≡ true))
in_use [] ms empty exact is = (λ h. let z : false ≡ true = ap not (sym is) ∙ h in cc z, λ w. let z : false ≡ true = exact w.0 ∙ w.1 in cc z)
in_use (j ∷ js) ms empty exact is =
    let some : not empty ≡ true = ap not is ∙ ap not (not_zero js) in
    (λ _. (j, sym (exact j) ∙ ap (λ b. b || among js j) (eq-eqb j j refl)), λ _. some)
  where
    not_zero : (js : List ℕ) → eqb (length (j ∷ js)) 0 ≡ false
    not_zero js = grind (arith, nat_tests)

-- ---- numbers

pub below_next : (n : ℕ) (ms : List SeenOpenMerge) → AllByRecursion (λ m. m.number < n) ms → among (numbers_of ms) n ≡ false
below_next n [] h = refl
below_next n (m ∷ ms) h = ap (λ b. b || among (numbers_of ms) n) (other n m.number h.0) ∙ below_next n ms h.1
  where
    other : (a b : ℕ) → b < a → eqb a b ≡ false
    other a b lt = grind (arith, nat_tests)

pub below_more : (ms : List SeenOpenMerge) (m : SeenOpenMerge) (n : ℕ) → m.number ≡ n → AllByRecursion (λ x. x.number < n) ms → AllByRecursion (λ x. x.number < n + 1) (ms ++ m ∷ [])
below_more [] m n is h = (omega (arith, is), tt)
below_more (x ∷ ms) m n is h = let here : x.number < n = h.0 in (omega (arith, here), below_more ms m n is h.1)

pub below_without : (n next : ℕ) (ms : List SeenOpenMerge) → AllByRecursion (λ x. x.number < next) ms → AllByRecursion (λ x. x.number < next) (without n ms)
below_without n next ms h = each_filter (λ x. x.number < next) (λ m. not (eqb m.number n)) ms h
