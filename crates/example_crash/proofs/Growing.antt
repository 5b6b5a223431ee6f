-- Lists that grow by one, beside each other.
use Rattle.std.proofs.Common.{◌≡◌, ⊎_elim, inl, inr, ℕ, zero, suc, ◌+◌, ◌-◌, ◌≤◌, arith, List, [], ◌∷◌, ◌++◌, map, take, drop, length, refl, sym, ap, ◌∙◌, append_assoc}
use Rattle.std.proofs.Math.Seq.{take-add}
use Rattle.std.specs.List.{slice_range}
use Rattle.lsm_runs.specs.Members.{IsIn}
use Rattle.lsm_run_model.specs.Moments.{last_of}

-- what holds of the first so many, and of all with one more, holds of the first so many of these
pub fronts : {A B C : Type 0} (P : List A → List B → List C → Type 0) (xs : List A) (ys : List B) (zs : List C) (x : A) (y : B) (z : C) → length ys ≡ length xs → length zs ≡ length xs
    → ((many : ℕ) → P (take many xs) (take many ys) (take many zs)) → P (xs ++ x ∷ []) (ys ++ y ∷ []) (zs ++ z ∷ [])
    → (many : ℕ) → P (take many (xs ++ x ∷ [])) (take many (ys ++ y ∷ [])) (take many (zs ++ z ∷ []))
fronts P [] [] [] x y z e f old new zero = old zero
fronts P [] [] [] x y z e f old new (suc zero) = new
fronts P [] [] [] x y z e f old new (suc (suc many)) = new
fronts P (a ∷ xs) (b ∷ ys) (c ∷ zs) x y z e f old new zero = old zero
fronts P (a ∷ xs) (b ∷ ys) (c ∷ zs) x y z e f old new (suc many) = fronts (λ us vs ws. P (a ∷ us) (b ∷ vs) (c ∷ ws)) xs ys zs x y z (omega (e, arith)) (omega (f, arith)) (λ n. old (suc n)) new many
fronts P [] (b ∷ ys) zs x y z e f old new many = absurd (omega (e, arith))
fronts P [] [] (c ∷ zs) x y z e f old new many = absurd (omega (f, arith))
fronts P (a ∷ xs) [] zs x y z e f old new many = absurd (omega (e, arith))
fronts P (a ∷ xs) (b ∷ ys) [] x y z e f old new many = absurd (omega (f, arith))

-- and so of all
pub all_of : {A B C : Type 0} (P : List A → List B → List C → Type 0) (xs : List A) (ys : List B) (zs : List C) → length ys ≡ length xs → length zs ≡ length xs
    → ((many : ℕ) → P (take many xs) (take many ys) (take many zs)) → P xs ys zs
all_of P [] [] [] e f each = each zero
all_of P (a ∷ xs) (b ∷ ys) (c ∷ zs) e f each = all_of (λ us vs ws. P (a ∷ us) (b ∷ vs) (c ∷ ws)) xs ys zs (omega (e, arith)) (omega (f, arith)) (λ n. each (suc n))
all_of P [] (b ∷ ys) zs e f each = absurd (omega (e, arith))
all_of P [] [] (c ∷ zs) e f each = absurd (omega (f, arith))
all_of P (a ∷ xs) [] zs e f each = absurd (omega (e, arith))
all_of P (a ∷ xs) (b ∷ ys) [] e f each = absurd (omega (f, arith))

-- of none the first so many are none
pub none_of : {A B C : Type 0} (P : List A → List B → List C → Type 0) → P [] [] [] → (many : ℕ) → P (take many []) (take many []) (take many [])
none_of P h zero = h
none_of P h (suc many) = h

pub map_more : {A B : Type 0} (f : A → B) (xs : List A) (x : A) → map f (xs ++ x ∷ []) ≡ map f xs ++ f x ∷ []
map_more f [] x = refl
map_more f (y ∷ xs) x = ap (λ zs. f y ∷ zs) (map_more f xs x)

pub length_more : {A : Type 0} (xs : List A) (x : A) → length (xs ++ x ∷ []) ≡ length xs + 1
length_more [] x = refl
length_more (y ∷ xs) x = let rest = length_more xs x in omega (rest, arith)

pub length_map : {A B : Type 0} (f : A → B) (xs : List A) → length (map f xs) ≡ length xs
length_map f [] = refl
length_map f (x ∷ xs) = let rest = length_map f xs in omega (rest, arith)

pub last_more : {F : Type 0} (was : F) (stores : List F) (is : F) → last_of was (stores ++ is ∷ []) ≡ is
last_more was [] is = refl
last_more was (s ∷ stores) is = last_more s stores is

pub in_front : {A : Type 0} (x : A) (xs ys : List A) → IsIn x xs → IsIn x (xs ++ ys)
in_front x [] ys i = absurd i
in_front x (z ∷ xs) ys i = ⊎_elim (λ (e : z ≡ x). inl e) (λ (j : IsIn x xs). inr (in_front x xs ys j)) i

pub in_back : {A : Type 0} (x : A) (xs ys : List A) → IsIn x ys → IsIn x (xs ++ ys)
in_back x [] ys i = i
in_back x (z ∷ xs) ys i = inr (in_back x xs ys i)

-- after others, the first ones and one more
pub more_behind : {A : Type 0} (before xs : List A) (at : ℕ) → (before ++ take at xs) ++ slice_range xs at (at + 1) ≡ before ++ take (at + 1) xs
more_behind before xs at =
    let one : at + 1 - at ≡ 1 = omega arith in
    append_assoc before (take at xs) (slice_range xs at (at + 1)) ∙ ap (λ n. before ++ (take at xs ++ take n (drop at xs))) one ∙ ap (λ ys. before ++ ys) (sym (take-add at 1 xs))

pub none_in : {A : Type 0} (xs : List A) → length xs ≤ 0 → xs ≡ []
none_in [] few = refl
none_in (x ∷ xs) few = absurd (omega (few, arith))
