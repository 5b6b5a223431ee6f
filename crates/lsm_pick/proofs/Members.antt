-- What a list has.
use Rattle.std.proofs.Common.{◌≡◌, ℕ, zero, suc, ◌+◌, ◌-◌, ◌<◌, ◌≤◌, ◌⊎◌, Bool, true, false, cond, ◌&&◌, ◌||◌, not, eqb, map, List, [], ◌∷◌, ◌++◌, length, get_or, take, drop, filter, refl, sym, ap, ap₂, ◌∙◌, inl, inr, ⊎_elim, arith, subst}
use Rattle.std.specs.List.{list_any, flat_map, AllByRecursion}
use Rattle.std.proofs.lemmas.Bool.{false≢true}
use Rattle.std.proofs.lemmas.Bool.Decides.{nat_tests}
use Rattle.std.specs.List.Sorted.{IsPermutation}
use Rattle.std.proofs.lemmas.List.Sorted.{All-permutation}
use Rattle.std.proofs.lemmas.List.Elements.{All-from_recursion, recursion_from_All}
use Rattle.std.proofs.lemmas.List.{get_or-take, get_or-drop, length-drop, length-take}

-- x is one of them
abbrev pub Has : {X : Type 0} → List X → X → Type 0
Has [] x = ⊥
Has (y ∷ ys) x = (y ≡ x) ⊎ Has ys x

pub or_cases : (a b : Bool) → (a || b) ≡ true → (a ≡ true) ⊎ (b ≡ true)
or_cases true b h = inl refl
or_cases false b h = inr h

pub or_left : (a b : Bool) → a ≡ true → (a || b) ≡ true
or_left a b h = rw h refl

pub or_right : (a b : Bool) → b ≡ true → (a || b) ≡ true
or_right true b h = refl
or_right false b h = h

pub and_left : (a b : Bool) → (a && b) ≡ true → a ≡ true
and_left true b h = refl
and_left false b h = absurd (false≢true h)

pub and_right : (a b : Bool) → (a && b) ≡ true → b ≡ true
and_right true b h = h
and_right false b h = absurd (false≢true h)

pub and_both : (a b : Bool) → a ≡ true → b ≡ true → (a && b) ≡ true
and_both a b h g = rw (h, g) refl

pub same_by : (a b : Bool) → (a ≡ true → b ≡ true) → (b ≡ true → a ≡ true) → a ≡ b
same_by true b f g = sym (f refl)
same_by false true f g = g refl
same_by false false f g = refl

pub not_true : (b : Bool) → not b ≡ true → b ≡ false
not_true true h = absurd (false≢true h)
not_true false h = refl

pub to_eqb : (n : ℕ) → eqb n n ≡ true
to_eqb n = grind (arith, nat_tests)

pub has_map : {A B : Type 0} (f : A → B) (xs : List A) (y : B) → Has (map f xs) y → (x : A) × Has xs x × (f x ≡ y)
has_map f [] y h = absurd h
has_map f (x ∷ xs) y h = ⊎_elim (λ e. (x, inl refl, e)) (λ r. let more = has_map f xs y r in (more.0, inr more.1, more.2)) h

pub map_has : {A B : Type 0} (f : A → B) (xs : List A) (x : A) → Has xs x → Has (map f xs) (f x)
map_has f [] x h = absurd h
map_has f (y ∷ xs) x h = ⊎_elim (λ e. inl (ap f e)) (λ r. inr (map_has f xs x r)) h

-- two tests that agree on each element
pub any_same : {A : Type 0} (p q : A → Bool) (xs : List A) → ((x : A) → p x ≡ q x) → list_any p xs ≡ list_any q xs
any_same p q [] f = refl
any_same p q (x ∷ xs) f = ap₂ (λ a b. a || b) (f x) (any_same p q xs f)

pub filter_same : {A : Type 0} (p q : A → Bool) (xs : List A) → ((x : A) → p x ≡ q x) → filter p xs ≡ filter q xs
filter_same p q [] f = refl
filter_same p q (x ∷ xs) f = ap₂ (λ b l. cond b (x ∷ l) l) (f x) (filter_same p q xs f)

module _ {X : Type 0} where
  pub has_append : (xs ys : List X) (x : X) → Has (xs ++ ys) x → Has xs x ⊎ Has ys x
  has_append [] ys x h = inr h
  has_append (y ∷ xs) ys x h = ⊎_elim (λ e. inl (inl e)) (λ r. ⊎_elim (λ l. inl (inr l)) (λ m. inr m) (has_append xs ys x r)) h

  pub has_left : (xs ys : List X) (x : X) → Has xs x → Has (xs ++ ys) x
  has_left [] ys x h = absurd h
  has_left (y ∷ xs) ys x h = ⊎_elim (λ e. inl e) (λ r. inr (has_left xs ys x r)) h

  pub has_right : (xs ys : List X) (x : X) → Has ys x → Has (xs ++ ys) x
  has_right [] ys x h = h
  has_right (y ∷ xs) ys x h = inr (has_right xs ys x h)

  pub has_filter : (q : X → Bool) (xs : List X) (x : X) → Has (filter q xs) x → Has xs x × (q x ≡ true)
  has_filter q [] x h = absurd h
  has_filter q (y ∷ ys) x h =
      (elim (q y) as (λ b. q y ≡ b → Has (cond b (y ∷ filter q ys) (filter q ys)) x → Has (y ∷ ys) x × (q x ≡ true)) [
        | true ↦ λ e g. ⊎_elim (λ s. (inl s, sym (ap q s) ∙ e)) (λ r. let more = has_filter q ys x r in (inr more.0, more.1)) g
        | false ↦ λ e g. let more = has_filter q ys x g in (inr more.0, more.1)
      ]) refl h

  pub has_kept : (q : X → Bool) (xs : List X) (x : X) → Has xs x → q x ≡ true → Has (filter q xs) x
  has_kept q [] x h e = absurd h
  has_kept q (y ∷ ys) x h e =
      (elim (q y) as (λ b. q y ≡ b → Has (cond b (y ∷ filter q ys) (filter q ys)) x) [
        | true ↦ λ t. ⊎_elim (λ s. inl s) (λ r. inr (has_kept q ys x r e)) h
        | false ↦ λ t. ⊎_elim (λ s. absurd (false≢true (sym t ∙ (ap q s ∙ e)))) (λ r. has_kept q ys x r e) h
      ]) refl

  pub has_at : (xs : List X) (x : X) → Has xs x → (i : ℕ) × (i < length xs) × (get_or xs i x ≡ x)
  has_at [] x h = absurd h
  has_at (y ∷ ys) x h =
      ⊎_elim (λ e. (0, omega arith, e)) (λ r. let more = has_at ys x r in (suc more.0, omega (arith, more.1), more.2)) h

  pub at_has : (xs : List X) (i : ℕ) (x : X) → i < length xs → get_or xs i x ≡ x → Has xs x
  at_has [] i x h e = absurd (omega arith)
  at_has (y ∷ ys) zero x h e = inl e
  at_has (y ∷ ys) (suc i) x h e = inr (at_has ys i x (omega arith) e)

  pub any_has : (p : X → Bool) (xs : List X) → list_any p xs ≡ true → (x : X) × Has xs x × (p x ≡ true)
  any_has p [] h = absurd (false≢true h)
  any_has p (y ∷ ys) h =
      ⊎_elim (λ e. (y, inl refl, e)) (λ r. let more = any_has p ys r in (more.0, inr more.1, more.2)) (or_cases (p y) (list_any p ys) h)

  pub has_any : (p : X → Bool) (xs : List X) (x : X) → Has xs x → p x ≡ true → list_any p xs ≡ true
  has_any p [] x h e = absurd h
  has_any p (y ∷ ys) x h e =
      ⊎_elim (λ s. or_left (p y) (list_any p ys) (ap p s ∙ e)) (λ r. or_right (p y) (list_any p ys) (has_any p ys x r e)) h

  pub each_has : (P : X → Type 0) (xs : List X) (x : X) → AllByRecursion P xs → Has xs x → P x
  each_has P [] x a h = absurd h
  each_has P (y ∷ ys) x a h = ⊎_elim (λ s. subst P s a.0) (λ r. each_has P ys x a.1 r) h

  pub has_each : (P : X → Type 0) (xs : List X) → ((x : X) → Has xs x → P x) → AllByRecursion P xs
  has_each P [] f = tt
  has_each P (y ∷ ys) f = (f y (inl refl), has_each P ys (λ x h. f x (inr h)))

  take_short : (n : ℕ) (ys : List X) (i : ℕ) → i < length (take n ys) → i < n
  take_short zero ys i h = absurd (omega arith)
  take_short (suc n) [] i h = absurd (omega arith)
  take_short (suc n) (y ∷ ys) zero h = omega arith
  take_short (suc n) (y ∷ ys) (suc i) h = let more = take_short n ys i (omega arith) in omega arith

  -- of a part of a list
  pub part_at :
      (xs : List X) (place count : ℕ) (x : X) → place + count ≤ length xs → Has (take (place + count - place) (drop place xs)) x →
      (i : ℕ) × (place ≤ i) × (i < place + count) × (get_or xs i x ≡ x)
  part_at xs place count x fits h =
      let found = has_at (take (place + count - place) (drop place xs)) x h in
      let less = take_short (place + count - place) (drop place xs) found.0 found.1 in
      let short : found.0 < count = omega arith in
      let first = get_or-take (place + count - place) (drop place xs) found.0 x (omega (arith, short)) in
      let second = get_or-drop place xs found.0 x in
      (place + found.0, omega arith, omega (arith, short), sym second ∙ (sym first ∙ found.2))

  pub at_part :
      (xs : List X) (place count i : ℕ) (x : X) → place + count ≤ length xs → place ≤ i → i < place + count → get_or xs i x ≡ x →
      Has (take (place + count - place) (drop place xs)) x
  at_part xs place count i x fits low high e =
      let k : ℕ = i - place in
      let less : k < place + count - place = omega arith in
      let long : k < length (take (place + count - place) (drop place xs)) = rw (length-take, length-drop) (omega arith) in
      let first = get_or-take (place + count - place) (drop place xs) k x less in
      let second = get_or-drop place xs k x in
      let same : place + k ≡ i = omega arith in
      at_has (take (place + count - place) (drop place xs)) k x long (first ∙ (second ∙ (ap (λ n. get_or xs n x) same ∙ e)))

  pub flat_has :
      {A : Type 0} (f : A → List X) (bs : List A) (i : ℕ) (d : A) (x : X) → i < length bs → Has (f (get_or bs i d)) x → Has (flat_map f bs) x
  flat_has f [] i d x lt h = absurd (omega arith)
  flat_has f (a ∷ bs) zero d x lt h = has_left (f a) (flat_map f bs) x h
  flat_has f (a ∷ bs) (suc i) d x lt h = has_right (f a) (flat_map f bs) x (flat_has f bs i d x (omega arith) h)

  pub has_flat : {A : Type 0} (f : A → List X) (bs : List A) (d : A) (x : X) → Has (flat_map f bs) x → (i : ℕ) × (i < length bs) × Has (f (get_or bs i d)) x
  has_flat f [] d x h = absurd h
  has_flat f (a ∷ bs) d x h =
      ⊎_elim (λ l. (0, omega arith, l)) (λ r. let more = has_flat f bs d x r in (suc more.0, omega (arith, more.1), more.2)) (has_append (f a) (flat_map f bs) x h)

  -- a list and its rearrangement have the same elements
  pub permuted_has : (xs ys : List X) (x : X) → IsPermutation xs ys → Has ys x → Has xs x
  permuted_has xs ys x p h =
      each_has (λ y. Has xs y) ys x (recursion_from_All (λ y. Has xs y) ys (All-permutation (λ y. Has xs y) xs ys p (All-from_recursion (λ y. Has xs y) xs (has_each (λ y. Has xs y) xs (λ y g. g))))) h
