-- Which records a store has, from its names.
use Rattle.std.proofs.Common.{◌≡◌, ⊎_elim, ℕ, zero, suc, ◌<◌, Bool, true, false, List, [], ◌∷◌, ◌++◌, length, take, get_or, map, ◌+◌, Option, Some, None, refl, ap, sym, subst, ◌∙◌, arith}
use Rattle.std.specs.Prelude.{◌↔◌, IsSome, Contains}
use Rattle.std.specs.List.{list_any, filter_map}
use Rattle.std.specs.List.Sorted.{IsStrictlyIncreasing}
use Rattle.std.specs.String.{string_bytes}
use Rattle.std.specs.declared.string.String.{String}
use Rattle.std.specs.declared.alloc.Global.{Global}
use Rattle.std.proofs.lemmas.Bool.{both_ways}
use Rattle.std.specs.Option.{option_to_list}
use Rattle.std.proofs.lemmas.List.{take_more}
use Rattle.std.proofs.lemmas.List.Elements.{filter_map-append, Contains-append_right, Contains-append_cases}
use Rattle.std.proofs.lemmas.List.Folds.{list_any-from_Any, Any-from_list_any}
use Rattle.lsm_below.specs.Numbers.{PlainNumbersAreRead}
use Rattle.lsm_store.specs.World.{Image, Lists}
use Rattle.lsm_log.specs.LogNames.{record_name, kind_of, kind_is_refused, is_refused, kind_number, number_in}
use Rattle.lsm_log.specs.Logs.{HasGoodNames, HasBadName, IsThere, AreNumbers}
use Rattle.lsm_log.proofs.NameLemmas.{record_kind, kind_is, number_kind, refused_kind}

-- ---- elements of lists

only_one : {X : Type 0} (x y : X) → Contains (x ∷ []) y → x ≡ y
only_one x y (zero, lt, is) = is
only_one x y (suc k, lt, is) = absurd (omega arith)

first_one : {X : Type 0} (x : X) (xs : List X) → Contains (x ∷ xs) x
first_one x xs = (0, omega arith, refl)

-- an element that f leads to
pub record Leads {X Y : Type 0} (f : X → Option Y) (xs : List X) (y : Y) : Type 0 where
  pub from : X
  pub there : Contains xs from
  pub leads : f from ≡ Some y

leads_later : {X Y : Type 0} (f : X → Option Y) (x : X) (xs : List X) (y : Y) → Leads f xs y → Leads f (x ∷ xs) y
leads_later f x xs y l = record { from = l.from; there = Contains-append_right (x ∷ []) xs l.from l.there; leads = l.leads }

pub kept_from : {X Y : Type 0} (f : X → Option Y) (xs : List X) (y : Y) → Contains (filter_map f xs) y → Leads f xs y
kept_from f [] y at = absurd (omega (arith, at.1))
kept_from {X} {Y} f (x ∷ xs) y at = by_head (f x) refl (λ later. leads_later f x xs y (kept_from f xs y later)) at
  where
    by_head : (o : Option Y) → f x ≡ o → (Contains (filter_map f xs) y → Leads f (x ∷ xs) y) → Contains (filter_map f (x ∷ xs)) y → Leads f (x ∷ xs) y
    by_head None e behind at2 = behind (rw e at at2)
    by_head (Some z) e behind at2 =
        ⊎_elim (λ here. record { from = x; there = first_one x xs; leads = e ∙ ap (λ (w : Y). Some w) (only_one z y here) }) behind
        (Contains-append_cases (z ∷ []) (filter_map f xs) y (rw e at at2))

pub kept_to : {X Y : Type 0} (f : X → Option Y) (xs : List X) (x : X) (y : Y) → Contains xs x → f x ≡ Some y → Contains (filter_map f xs) y
kept_to f [] x y at e = absurd (omega (arith, at.1))
kept_to {X} {Y} f (z ∷ xs) x y at e =
    ⊎_elim (λ here. at_head (ap f (only_one z x here) ∙ e)) (λ later. behind (f z) refl (kept_to f xs x y later e)) (Contains-append_cases (z ∷ []) xs x at)
  where
    at_head : f z ≡ Some y → Contains (filter_map f (z ∷ xs)) y
    at_head is = rw is (first_one y (filter_map f xs))

    behind : (o : Option Y) → f z ≡ o → Contains (filter_map f xs) y → Contains (filter_map f (z ∷ xs)) y
    behind None is h = rw is h
    behind (Some w) is h = rw is (Contains-append_right (w ∷ []) (filter_map f xs) y h)

-- one more element
pub kept_more : {X Y : Type 0} (f : X → Option Y) (xs : List X) (i : ℕ) (x : X) (o : Option Y) → i < length xs → x ≡ get_or xs i x → f x ≡ o → filter_map f (take (i + 1) xs) ≡ filter_map f (take i xs) ++ option_to_list o
kept_more f xs i x o lt is here =
    ap (filter_map f) (take_more xs i x lt ∙ ap (λ y. take i xs ++ y ∷ []) (sym is)) ∙ filter_map-append f (take i xs) (x ∷ []) ∙ ap (λ l. filter_map f (take i xs) ++ l) (by_one f x o here)
  where
    by_one : {X Y : Type 0} (f : X → Option Y) (x : X) (o : Option Y) → f x ≡ o → filter_map f (x ∷ []) ≡ option_to_list o
    by_one f x None e = rw e refl
    by_one f x (Some y) e = rw e refl

-- an element that f maps so
pub record Maps {X Y : Type 0} (f : X → Y) (xs : List X) (y : Y) : Type 0 where
  pub from : X
  pub there : Contains xs from
  pub maps : f from ≡ y

pub map_from : {X Y : Type 0} (f : X → Y) (xs : List X) (y : Y) → Contains (map f xs) y → Maps f xs y
map_from f [] y at = absurd (omega (arith, at.1))
map_from f (x ∷ xs) y at =
    ⊎_elim (λ here. record { from = x; there = first_one x xs; maps = only_one (f x) y here })
    (λ later. let m = map_from f xs y later in record { from = m.from; there = Contains-append_right (x ∷ []) xs m.from m.there; maps = m.maps })
    (Contains-append_cases (f x ∷ []) (map f xs) y at)

pub map_to : {X Y : Type 0} (f : X → Y) (xs : List X) (x : X) → Contains xs x → Contains (map f xs) (f x)
map_to f [] x at = absurd (omega (arith, at.1))
map_to f (z ∷ xs) x at =
    ⊎_elim (λ here. subst (λ w. Contains (f z ∷ map f xs) (f w)) (only_one z x here) (first_one (f z) (map f xs)))
    (λ later. Contains-append_right (f z ∷ []) (map f xs) (f x) (map_to f xs x later)) (Contains-append_cases (z ∷ []) xs x at)

-- ---- names

abbrev refuses : String Global → Bool
refuses s = is_refused (string_bytes s)

abbrev numbers : String Global → Option ℕ
numbers s = number_in (string_bytes s)

abbrev bytes_of : String Global → List ℕ
bytes_of s = string_bytes s

module _ (image : Image) (names : List (String Global)) (all : Lists image (map bytes_of names)) where
  none_refused : list_any refuses names ≡ false → HasGoodNames image
  none_refused none n refused = by_content (image n) refl
    where
      by_content : (o : Option (List ℕ)) → image n ≡ o → image n ≡ None
      by_content None e = e
      by_content (Some b) e =
          let m = map_from bytes_of names n ((all.each n).1 (subst (λ (c : Option (List ℕ)). IsSome c) (sym e) refl)) in
          let at = m.there in
          let is : refuses m.from ≡ true = ap is_refused m.maps ∙ ap kind_is_refused refused in
          absurd (both_ways (list_any refuses names) none (list_any-from_Any refuses names (at.0, m.from, at.1, at.2, is)))

  number_there : (k : ℕ) → Contains (filter_map numbers names) k → IsThere image k
  number_there k at =
      let l = kept_from numbers names k at in
      let named = kind_is (string_bytes l.from) k (number_kind (kind_of (string_bytes l.from)) k l.leads) in
      record { small = named.1; file = subst (λ (n : List ℕ). IsSome (image n)) named.0 ((all.each (string_bytes l.from)).0 (map_to bytes_of names l.from l.there)) }

  there_number : PlainNumbersAreRead → (k : ℕ) → IsThere image k → Contains (filter_map numbers names) k
  there_number read k there =
      let m = map_from bytes_of names (record_name k) ((all.each (record_name k)).1 there.file) in
      kept_to numbers names m.from k m.there (ap number_in m.maps ∙ ap kind_number (record_kind read k there.small))

  pub numbers_are : PlainNumbersAreRead → list_any refuses names ≡ false → (ns : List ℕ) → ((k : ℕ) → Contains ns k ↔ Contains (filter_map numbers names) k) → IsStrictlyIncreasing ns → AreNumbers image ns
  numbers_are read none ns same rise = record {
    good = none_refused none;
    each = λ k. (λ at. number_there k ((same k).0 at), λ there. (same k).1 (there_number read k there));
    rise = rise;
  }

  pub bad_name : list_any refuses names ≡ true → HasBadName image
  bad_name some =
      let a = Any-from_list_any refuses names some in
      record {
        name = string_bytes a.1;
        refused = refused_kind (kind_of (string_bytes a.1)) a.4;
        there = (all.each (string_bytes a.1)).0 (map_to bytes_of names a.1 (a.0, a.2, a.3));
      }
