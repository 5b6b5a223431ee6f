-- The range from the first entry's key to the last one's has each entry's key.
use Rattle.std.proofs.Common.{◌≡◌, suc, ◌-◌, ◌<◌, false, List, [], ◌∷◌, length, get_or, refl, ap, ◌∙◌, arith}
use Rattle.std.specs.List.{All, AllByRecursion}
use Rattle.std.specs.declared.cmp.Ordering.TheVariants.{Less}
use Rattle.std.proofs.lemmas.List.Elements.{All-head, All-tail}
use Rattle.lsm_below.specs.Keys.{is_below}
use Rattle.lsm_below.specs.Ranges.{Range, IsRange}
use Rattle.lsm_below.specs.Entries.{Entry, entry_cmp}
use Rattle.lsm_below.specs.Laws.{KeysAreOrdered, EntriesAreOrdered}
use Rattle.lsm_below.specs.Sorted.{Rises}
use Rattle.lsm_tables.specs.Tables.{first_key, last_key, range_of, IsCovered}

module _ (keys : KeysAreOrdered) (entries : EntriesAreOrdered) where
  pub below_first : (x : Entry) (xs : List Entry) → All (λ y. entry_cmp x y ≡ Less) xs → AllByRecursion (λ e. is_below e.key.user_key x.key.user_key ≡ false) xs
  below_first x [] h = tt
  below_first x (y ∷ ys) h = (entries.keys x y (All-head (λ z. entry_cmp x z ≡ Less) y ys h), below_first x ys (All-tail (λ z. entry_cmp x z ≡ Less) y ys h))

  pub upto_last : (x : Entry) (xs : List Entry) → Rises entry_cmp (x ∷ xs) → AllByRecursion (λ e. is_below (last_key (x ∷ xs)) e.key.user_key ≡ false) (x ∷ xs)
  upto_last x [] h = (keys.itself x.key.user_key, tt)
  upto_last x (y ∷ ys) h =
      let rest = upto_last y ys h.1 in
      (keys.upto x.key.user_key y.key.user_key (last_key (y ∷ ys)) (entries.keys x y (All-head (λ z. entry_cmp x z ≡ Less) y ys h.0)) rest.0, rest)

  between : (r : Range) (es : List Entry) → AllByRecursion (λ e. is_below e.key.user_key r.min ≡ false) es → AllByRecursion (λ e. is_below r.max e.key.user_key ≡ false) es → IsCovered es r
  between r [] low high = tt
  between r (e ∷ es) low high = (keys.in_range e.key.user_key r low.0 high.0, between r es low.1 high.1)

  pub covered : (es : List Entry) → Rises entry_cmp es → IsCovered es (range_of es)
  covered [] h = tt
  covered (x ∷ xs) h = between (range_of (x ∷ xs)) (x ∷ xs) (keys.itself x.key.user_key, below_first x xs h.0) (upto_last x xs h)

  pub is_range : (es : List Entry) → 0 < length es → Rises entry_cmp es → IsRange (range_of es)
  is_range [] some h = absurd (omega arith)
  is_range (x ∷ xs) some h = keys.range (range_of (x ∷ xs)) (upto_last x xs h).0

pub first_is : (es : List Entry) (d : Entry) → 0 < length es → (get_or es 0 d).key.user_key ≡ first_key es
first_is [] d some = absurd (omega arith)
first_is (e ∷ es) d some = refl

pub last_is : (es : List Entry) (d : Entry) → 0 < length es → (get_or es (length es - 1) d).key.user_key ≡ last_key es
last_is [] d some = absurd (omega arith)
last_is (e ∷ []) d some = refl
last_is (e ∷ (f ∷ es)) d some =
    let n : length (e ∷ (f ∷ es)) - 1 ≡ suc (length (f ∷ es) - 1) = omega arith in
    ap (λ k. (get_or (e ∷ (f ∷ es)) k d).key.user_key) n ∙ last_is (f ∷ es) d (omega arith)
