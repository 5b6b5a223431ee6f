-- What is counted of memtables that are held.
use Rattle.std.proofs.Common.{◌≡◌, ℕ, ◌+◌, ◌^◌, ◌<◌, Bool, true, false, cond, List, [], ◌∷◌, ◌++◌, Option, Some, None, filter, fold, sum_by, max, unwrap_or, refl, ap, ◌∙◌, arith}
use Rattle.std.proofs.lemmas.List.Sums.{sum_by-cons}
use Rattle.lsm_below.specs.Entries.{Entry}
use Rattle.lsm_below.specs.Sums.{capped}
use Rattle.lsm_memtable.specs.Memtables.{SeenMemtable, highest_of}

-- ---- sequence numbers

-- the greater of two, where there is one
abbrev pub joined : Option ℕ → Option ℕ → Option ℕ
joined None b = b
joined (Some a) b = Some (max a (unwrap_or b 0))

or_zero-append : (xs ys : List Entry) → unwrap_or (highest_of (xs ++ ys)) 0 ≡ max (unwrap_or (highest_of xs) 0) (unwrap_or (highest_of ys) 0)
or_zero-append [] ys = omega arith
or_zero-append (x ∷ xs) ys = let h = or_zero-append xs ys in omega (arith, h)

pub highest-append : (xs ys : List Entry) → highest_of (xs ++ ys) ≡ joined (highest_of xs) (highest_of ys)
highest-append [] ys = refl
highest-append (x ∷ xs) ys = let h = or_zero-append xs ys in ap Some (omega (arith, h))

-- ---- bytes

module _ (p : SeenMemtable → Bool) where
  abbrev plus : ℕ → SeenMemtable → ℕ
  plus n m = capped (n + cond (p m) m.size 0)

  -- a sum of some that stands at the greatest number at each step is the whole sum, at the greatest number
  pub fold-some : (xs : List SeenMemtable) (a : ℕ) → fold plus (capped a) xs ≡ capped (a + sum_by (λ m. m.size) (filter p xs))
  fold-some [] a = omega arith
  fold-some (x ∷ xs) a = by_case (p x) (λ n. fold-some xs n)
    where
      by_case : (b : Bool) → ((n : ℕ) → fold plus (capped n) xs ≡ capped (n + sum_by (λ m. m.size) (filter p xs))) → fold plus (capped (capped a + cond b x.size 0)) xs ≡ capped (a + sum_by (λ m. m.size) (cond b (x ∷ filter p xs) (filter p xs)))
      by_case true rest =
          let step : capped (capped a + x.size) ≡ capped (a + x.size) = omega arith in
          let more = sum_by-cons (λ (m : SeenMemtable). m.size) x (filter p xs) in
          let whole : capped (a + x.size + sum_by (λ m. m.size) (filter p xs)) ≡ capped (a + sum_by (λ m. m.size) (x ∷ filter p xs)) = omega (arith, more) in
          ap (λ n. fold plus n xs) step ∙ rest (a + x.size) ∙ whole
      by_case false rest =
          let step : capped (capped a + 0) ≡ capped a = omega arith in
          ap (λ n. fold plus n xs) step ∙ rest a

  -- with that of the first one before it
  pub fold-first : (x : SeenMemtable) (xs : List SeenMemtable) (first : ℕ) → first < 2 ^ 64 → first ≡ cond (p x) x.size 0 → fold plus first xs ≡ capped (sum_by (λ m. m.size) (filter p (x ∷ xs)))
  fold-first x xs first lt is =
      let within : first ≡ capped (0 + first) = omega (arith, lt) in
      let whole : capped (0 + sum_by (λ m. m.size) (filter p (x ∷ xs))) ≡ capped (sum_by (λ m. m.size) (filter p (x ∷ xs))) = omega arith in
      ap (λ n. fold plus n xs) (within ∙ ap (λ n. capped (0 + n)) is) ∙ fold-some (x ∷ xs) 0 ∙ whole
