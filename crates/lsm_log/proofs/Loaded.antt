-- Records that are read, and those below them.
use Rattle.std.proofs.Common.{◌≡◌, ◌⊎◌, ⊎_elim, ℕ, zero, suc, ◌+◌, ◌<◌, ◌≤◌, List, [], ◌∷◌, ◌++◌, length, take, drop, get_or, map, ap, sym, subst, ◌∙◌, arith}
use Rattle.std.specs.Prelude.{◌↔◌, Contains}
use Rattle.std.specs.List.{All}
use Rattle.std.specs.List.Sorted.{IsStrictlyIncreasing}
use Rattle.std.proofs.lemmas.List.{take-append-drop, get_or-take, get_or-drop, get_or_default, length-take, length-drop, map-append, take_more}
use Rattle.std.proofs.lemmas.List.Elements.{All-contains, Contains-append_left, Contains-append_right, Contains-append_cases}
use Rattle.std.proofs.lemmas.List.Kept.{AllPairs-from_increasing}
use Rattle.lsm_below.specs.Each.{each_append}
use Rattle.lsm_store.specs.World.{Image, World, Same}
use Rattle.lsm_store.specs.Moments.{image_same}
use Rattle.lsm_log.specs.declared.record.Record.{Record}
use Rattle.lsm_log.specs.Logs.{IsThere, AreNumbers, IsRecordAt, HasEach, IsLogAt}

-- ---- parts of numbers that rise

pub rise_take : (n : ℕ) (xs : List ℕ) → IsStrictlyIncreasing xs → IsStrictlyIncreasing (take n xs)
rise_take n xs rise k lt =
    let len = length-take n xs in
    let below : k + 1 < n = omega (arith, lt, len) in
    let first : k < n = omega (arith, below) in
    let inside : k + 1 < length xs = omega (arith, lt, len) in
    rw (get_or-take n xs k 0 first, get_or-take n xs (k + 1) 0 below) (rise k inside)

pub rise_drop : (n : ℕ) (xs : List ℕ) → IsStrictlyIncreasing xs → IsStrictlyIncreasing (drop n xs)
rise_drop n xs rise k lt =
    let len = length-drop n xs in
    let inside : n + k + 1 < length xs = omega (arith, lt, len) in
    let more : n + (k + 1) ≡ n + k + 1 = omega arith in
    rw (get_or-drop n xs k 0, get_or-drop n xs (k + 1) 0, more) (rise (n + k) inside)

-- from the first that isn't below, none is
pub none_below : (xs : List ℕ) (i from : ℕ) → IsStrictlyIncreasing xs → i < length xs → from ≤ get_or xs i 0 → All (λ k. from ≤ k) (drop i xs)
none_below xs i from rise lt le zero d inside =
    let same : get_or (drop i xs) 0 d ≡ get_or xs i 0 = get_or-drop i xs 0 d ∙ ap (λ j. get_or xs j d) (omega arith) ∙ get_or_default xs i d 0 lt in
    omega (arith, le, same)
none_below xs i from rise lt le (suc j) d inside =
    let len = length-drop i xs in
    let fits : i + suc j < length xs = omega (arith, inside, len) in
    let more : i < i + suc j = omega arith in
    let above : get_or xs i d < get_or xs (i + suc j) d = AllPairs-from_increasing xs rise i (i + suc j) d more fits in
    let first : get_or xs i d ≡ get_or xs i 0 = get_or_default xs i d 0 lt in
    let same : get_or (drop i xs) (suc j) d ≡ get_or xs (i + suc j) d = get_or-drop i xs (suc j) d in
    omega (arith, le, above, first, same)

-- ---- a log

module _ (image : Image) (from at : ℕ) (ns : List ℕ) (are : AreNumbers image ns) (before : All (λ k. k < from) (take at ns)) (behind : All (λ k. from ≤ k) (drop at ns)) where
  of_front : (k : ℕ) → Contains (take at ns) k → Contains ns k
  of_front k h = subst (λ l. Contains l k) (take-append-drop at ns) (Contains-append_left (take at ns) (drop at ns) k h)

  of_back : (k : ℕ) → Contains (drop at ns) k → Contains ns k
  of_back k h = subst (λ l. Contains l k) (take-append-drop at ns) (Contains-append_right (take at ns) (drop at ns) k h)

  either : (k : ℕ) → IsThere image k → Contains (take at ns) k ⊎ Contains (drop at ns) k
  either k there = Contains-append_cases (take at ns) (drop at ns) k (subst (λ l. Contains l k) (sym (take-append-drop at ns)) ((are.each k).1 there))

  pub passed_are : (k : ℕ) → Contains (take at ns) k ↔ (IsThere image k × (k < from))
  passed_are k = (
    λ h. ((are.each k).0 (of_front k h), All-contains (λ x. x < from) (take at ns) k before h),
    λ h. ⊎_elim (λ front. front) (λ back. let le : from ≤ k = All-contains (λ x. from ≤ x) (drop at ns) k behind back in absurd (omega (arith, le, h.1))) (either k h.0),
  )

  read_are : (k : ℕ) → Contains (drop at ns) k ↔ (IsThere image k × (from ≤ k))
  read_are k = (
    λ h. ((are.each k).0 (of_back k h), All-contains (λ x. from ≤ x) (drop at ns) k behind h),
    λ h. ⊎_elim (λ front. let lt : k < from = All-contains (λ x. x < from) (take at ns) k before front in absurd (omega (arith, lt, h.1))) (λ back. back) (either k h.0),
  )

  log_is : (passed numbers : List ℕ) → passed ≡ take at ns → numbers ≡ drop at ns → HasEach image numbers → IsLogAt image from passed numbers
  log_is passed numbers front back each =
      let named = each.named ∙ back in
      record {
        records = each.records;
        named = each.named;
        log = record {
          numbers = ns;
          are = are;
          passed_are = λ k. subst (λ l. Contains l k ↔ (IsThere image k × (k < from))) (sym front) (passed_are k);
          read_are = λ k. subst (λ l. Contains l k ↔ (IsThere image k × (from ≤ k))) (sym named) (read_are k);
          passed_rise = subst IsStrictlyIncreasing (sym front) (rise_take at ns are.rise);
          read_rise = subst IsStrictlyIncreasing (sym named) (rise_drop at ns are.rise);
          records_are = each.records_are;
        };
      }

-- the same of numbers that were read as they stand
module _ (image : Image) (from at : ℕ) (ns seen : List ℕ) (are : AreNumbers image ns) (value : seen ≡ ns) (before : All (λ k. k < from) (take at seen)) (behind : All (λ k. from ≤ k) (drop at seen)) where
  front_of : All (λ k. k < from) (take at ns)
  front_of = subst (λ l. All (λ k. k < from) (take at l)) value before

  back_of : All (λ k. from ≤ k) (drop at ns)
  back_of = subst (λ l. All (λ k. from ≤ k) (drop at l)) value behind

  pub seen_read : (k : ℕ) → Contains (drop at ns) k → IsThere image k × (from ≤ k)
  seen_read k has = (read_are image from at ns are front_of back_of k).0 has

  pub seen_log : (passed numbers : List ℕ) → passed ≡ take at ns → numbers ≡ drop at ns → HasEach image numbers → IsLogAt image from passed numbers
  seen_log passed numbers front back each = log_is image from at ns are front_of back_of passed numbers front back each

-- ---- reads one after the other

-- reads give the same
pub gives_same : (old mid : World) → Same old mid → mid.gives ≡ old.gives
gives_same old mid same = image_same old.gives mid.gives same.gives

pub numbers_push : (rs : List Record) (r : Record) (ns : List ℕ) (i : ℕ) → map (λ (x : Record). x.number) rs ≡ take i ns → i < length ns → r.number ≡ get_or ns i 0 → map (λ (x : Record). x.number) (rs ++ r ∷ []) ≡ take (i + 1) ns
numbers_push rs r ns i so_far lt same =
    map-append (λ (x : Record). x.number) rs (r ∷ []) ∙ ap (λ l. l ++ r.number ∷ []) so_far ∙ ap (λ x. take i ns ++ x ∷ []) same ∙ sym (take_more ns i 0 lt)

-- one more number has its record
pub each_more : (image : Image) (ns : List ℕ) (i : ℕ) (r : Record) → HasEach image (take i ns) → i < length ns → IsRecordAt image (get_or ns i 0) r → HasEach image (take (i + 1) ns)
each_more image ns i r so_far lt at = record {
  records = so_far.records ++ r ∷ [];
  named = numbers_push so_far.records r ns i so_far.named lt at.number_is;
  records_are = each_append (λ (x : Record). IsRecordAt image x.number x) so_far.records (r ∷ []) so_far.records_are (subst (λ (n : ℕ). IsRecordAt image n r) (sym at.number_is) at, tt);
}
