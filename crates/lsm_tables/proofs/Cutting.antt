-- Entries that may be written, and what cutting off a first table leaves.
use Rattle.std.proofs.Common.{◌≡◌, ℕ, ◌+◌, ◌-◌, ◌^◌, ◌<◌, true, false, List, [], ◌∷◌, ◌++◌, length, get_or, take, drop, map, refl, sym, ap, subst, ◌∙◌, append_assoc, arith, inl, inr}
use Rattle.std.specs.List.{AllByRecursion, flat_map}
use Rattle.std.specs.declared.cmp.Ordering.TheVariants.{Less}
use Rattle.std.proofs.lemmas.Bool.{cases_lt, and_from, and_parts}
use Rattle.std.proofs.lemmas.List.{append-nil, take-append-drop, length-append, length-take, length-drop, take_at, get_or_append_left, get_or-append-add, get_or-take, map-append}
use Rattle.std.proofs.lemmas.List.Elements.{All-from_recursion, recursion_from_All}
use Rattle.std.proofs.lemmas.List.Sums.{sum_by_more}
use Rattle.std.proofs.lemmas.List.Concat.{flat_map-cons}
use Rattle.lsm_below.specs.Keys.{Bytes, is_below}
use Rattle.lsm_below.specs.Entries.{Entry, entry_cmp}
use Rattle.lsm_below.specs.Slots.{same_key}
use Rattle.lsm_below.specs.Laws.{KeysAreOrdered, EntriesAreOrdered}
use Rattle.lsm_below.specs.Sorted.{Rises}
use Rattle.lsm_tables.specs.Image.{Fits, IsTable, image, entry_bytes}
use Rattle.lsm_tables.specs.ImageReading.{rises, follows}
use Rattle.lsm_below.specs.Sums.{capped}
use Rattle.lsm_tables.specs.Cutting.{IsWritable, IsApart, IsFilled, HasNoEarlierEnd, IsCutting, CutsFirst, AreImagesOf, IsFirstEnd}
use Rattle.lsm_tables.specs.Tables.{last_key}
use Rattle.lsm_tables.proofs.Adjacent.{rises_found, rises_again, rises_push}
use Rattle.lsm_tables.proofs.Covering.{below_first, upto_last, last_is}
use Rattle.lsm_below.specs.Each.{each_at}
use Rattle.lsm_below.specs.Each.{each_append, each_left, each_right, each_weaker}

-- ---- parts of entries that rise

pub rises_left : (xs ys : List Entry) → Rises entry_cmp (xs ++ ys) → Rises entry_cmp xs
rises_left [] ys h = tt
rises_left (x ∷ xs) ys h =
    let P = λ (y : Entry). entry_cmp x y ≡ Less in
    (All-from_recursion P xs (each_left P xs ys (recursion_from_All P (xs ++ ys) h.0)), rises_left xs ys h.1)

pub rises_right : (xs ys : List Entry) → Rises entry_cmp (xs ++ ys) → Rises entry_cmp ys
rises_right [] ys h = h
rises_right (x ∷ xs) ys h = rises_right xs ys h.1

pub writable_left : (xs ys : List Entry) → IsWritable (xs ++ ys) → IsWritable xs
writable_left xs ys h = record { each = each_left Fits xs ys h.each; rises = rises_left xs ys h.rises }

pub writable_right : (xs ys : List Entry) → IsWritable (xs ++ ys) → IsWritable ys
writable_right xs ys h = record { each = each_right Fits xs ys h.each; rises = rises_right xs ys h.rises }

-- one more entry may be written where it fits and comes after the last one
pub writable_push : EntriesAreOrdered → (es : List Entry) (e : Entry) → IsWritable es → Fits e → follows es e ≡ true → IsWritable (es ++ e ∷ [])
writable_push order es e h fits f = record {
  each = each_append Fits es (e ∷ []) h.each (fits, tt);
  rises = rises_found order (es ++ e ∷ []) (rises_push es e ∙ and_from (rises es) (follows es e) (rises_again es h.rises) f);
}

pub pushed_fits : (es : List Entry) (e : Entry) → IsWritable (es ++ e ∷ []) → Fits e
pushed_fits es e h = (each_right Fits es (e ∷ []) h.each).0

pub pushed_follows : (es : List Entry) (e : Entry) → IsWritable (es ++ e ∷ []) → follows es e ≡ true
pushed_follows es e h = (and_parts (rises es) (follows es e) (sym (rises_push es e) ∙ rises_again (es ++ e ∷ []) h.rises)).1

pub writable_take : (n : ℕ) (es : List Entry) → IsWritable es → IsWritable (take n es)
writable_take n es h = writable_left (take n es) (drop n es) (subst IsWritable (sym (take-append-drop n es)) h)

-- ---- the two sides of a cut

-- where the last key of one side is below the first key of the other, no key stands on both
apart_from : KeysAreOrdered → EntriesAreOrdered → (x : Entry) (xs : List Entry) (y : Entry) (ys : List Entry) → Rises entry_cmp (x ∷ xs) → Rises entry_cmp (y ∷ ys) → is_below (last_key (x ∷ xs)) y.key.user_key ≡ true → IsApart (x ∷ xs) (y ∷ ys)
apart_from keys entries x xs y ys hx hy lt =
    let low = upto_last keys entries x xs hx in
    let high : AllByRecursion (λ f. is_below f.key.user_key y.key.user_key ≡ false) (y ∷ ys) = (keys.itself y.key.user_key, below_first keys entries y ys hy.0) in
    each_weaker (λ f. is_below f.key.user_key y.key.user_key ≡ false) (λ f. AllByRecursion (λ e. same_key e f ≡ false) (x ∷ xs)) (λ f h.
    each_weaker (λ e. is_below (last_key (x ∷ xs)) e.key.user_key ≡ false) (λ e. same_key e f ≡ false) (λ e g.
    entries.apart e f (keys.then_upto e.key.user_key y.key.user_key f.key.user_key (keys.upto_then e.key.user_key (last_key (x ∷ xs)) y.key.user_key g lt) h)) (x ∷ xs) low) (y ∷ ys) high

each_flat : {A : Type 0} (P : A → Type 0) (lists : List (List A)) → AllByRecursion P (flat_map (λ l. l) lists) → AllByRecursion (λ l. AllByRecursion P l) lists
each_flat P [] h = tt
each_flat {A} P (l ∷ lists) h =
    let all = subst (λ (xs : List A). AllByRecursion P xs) (flat_map-cons (λ (x : List A). x) l lists) h in
    (each_left P l (flat_map (λ x. x) lists) all, each_flat P lists (each_right P l (flat_map (λ x. x) lists) all))

module _ (keys : KeysAreOrdered) (entries : EntriesAreOrdered) (target : ℕ) (es : List Entry) (end : ℕ) (writable : IsWritable es) (at : IsFirstEnd target es end) where
  parts : take end es ++ drop end es ≡ es
  parts = take-append-drop end es

  split : Rises entry_cmp (take end es ++ drop end es)
  split = subst (Rises entry_cmp) (sym parts) writable.rises

  front_length : length (take end es) ≡ end
  front_length = let l = length-take end es in let w = at.within in omega arith

  front_writable : IsWritable (take end es)
  front_writable = writable_left (take end es) (drop end es) (subst IsWritable (sym parts) writable)

  pub behind_writable : IsWritable (drop end es)
  behind_writable = writable_right (take end es) (drop end es) (subst IsWritable (sym parts) writable)

  pub front_table : end < 2 ^ 64 → IsTable (take end es)
  front_table lt = let f = front_length in let s = at.some in record {
    some = omega arith;
    count = omega arith;
    each = front_writable.each;
    rises = front_writable.rises;
  }

  -- the last entry of the table has another key than the one after it
  apart_sides : (xs ys : List Entry) → xs ≡ take end es → ys ≡ drop end es → IsApart xs ys
  apart_sides xs [] ex ey = tt
  apart_sides [] (y ∷ ys) ex ey = let f = front_length in let n = ap length ex in let s = at.some in absurd (omega arith)
  apart_sides (x ∷ xs) (y ∷ ys) ex ey =
      let f = front_length in
      let n = ap length ex in
      let m = ap length ey in
      let d = length-drop end es in
      let s = at.some in
      let more : end < length es = omega arith in
      let same_front : (get_or es (end - 1) y) ≡ get_or (x ∷ xs) (end - 1) y = sym (get_or-take end es (end - 1) y (omega arith)) ∙ ap (λ (l : List Entry). get_or l (end - 1) y) (sym ex) in
      let here : get_or es end y ≡ y = ap (λ (l : List Entry). get_or l end y) (sym parts) ∙ ap (λ (k : ℕ). get_or (take end es ++ drop end es) k y) (omega arith) ∙ get_or-append-add (take end es) (drop end es) 0 y ∙ ap (λ (l : List Entry). get_or l 0 y) (sym ey) in
      let less = entries.rises es (end - 1) end y writable.rises (omega arith) more in
      let lt : is_below (get_or es (end - 1) y).key.user_key (get_or es end y).key.user_key ≡ true = entries.keys_apart (get_or es (end - 1) y) (get_or es end y) less (at.apart y more) in
      let last : (get_or (x ∷ xs) (end - 1) y).key.user_key ≡ last_key (x ∷ xs) = ap (λ (k : ℕ). (get_or (x ∷ xs) k y).key.user_key) (omega arith) ∙ last_is (x ∷ xs) y (omega arith) in
      let below : is_below (last_key (x ∷ xs)) y.key.user_key ≡ true =
      ap (λ (k : Bytes). is_below k y.key.user_key) (sym (ap (λ (e : Entry). e.key.user_key) same_front ∙ last)) ∙ ap (λ (e : Entry). is_below (get_or es (end - 1) y).key.user_key e.key.user_key) (sym here) ∙ lt in
      let rises_x : Rises entry_cmp (x ∷ xs) = subst (Rises entry_cmp) (sym ex) front_writable.rises in
      let rises_y : Rises entry_cmp (y ∷ ys) = subst (Rises entry_cmp) (sym ey) behind_writable.rises in
      apart_from keys entries x xs y ys rises_x rises_y below

  no_earlier : HasNoEarlierEnd target (take end es)
  no_earlier xs ys y is some apart =
      let j : ℕ = length xs in
      let whole : es ≡ xs ++ (y ∷ (ys ++ drop end es)) = sym parts ∙ ap (λ (l : List Entry). l ++ drop end es) is ∙ append_assoc xs (y ∷ ys) (drop end es) in
      let f = front_length in
      let n = ap length is in
      let m = length-append xs (y ∷ ys) in
      let lt : j < end = omega arith in
      let before : take j es ≡ xs = ap (take j) whole ∙ take_at xs (y ∷ (ys ++ drop end es)) j refl in
      let here : get_or es j y ≡ y = ap (λ (l : List Entry). get_or l j y) whole ∙ ap (λ (k : ℕ). get_or (xs ++ (y ∷ (ys ++ drop end es))) k y) (omega arith) ∙ get_or-append-add xs (y ∷ (ys ++ drop end es)) 0 y in
      let ahead : get_or es (j - 1) y ≡ get_or xs (j - 1) y = ap (λ (l : List Entry). get_or l (j - 1) y) whole ∙ get_or_append_left xs (y ∷ (ys ++ drop end es)) y (j - 1) (omega arith) in
      let other : same_key (get_or es (j - 1) y) (get_or es j y) ≡ false = ap (λ (e : Entry). same_key e (get_or es j y)) ahead ∙ ap (same_key (get_or xs (j - 1) y)) here ∙ each_at (λ e. same_key e y ≡ false) xs (j - 1) y apart.0 (omega arith) in
      subst (λ (l : List Entry). entry_bytes l < target) before (at.none_earlier j y some lt other)

  filled : (tables : List (List Entry)) → flat_map (λ t. t) tables ≡ drop end es → AllByRecursion (λ t. 0 < length t) tables → IsFilled target tables → IsFilled target (take end es ∷ tables)
  filled [] whole some h = tt
  filled (t ∷ tables) whole some h =
      let n = ap length (sym (flat_map-cons (λ (x : List Entry). x) t tables) ∙ whole) in
      let m = length-append t (flat_map (λ x. x) tables) in
      let d = length-drop end es in
      let s = some.0 in
      (at.filled (omega arith), h)

  -- a first table, and the tables of what comes after it
  pub cut_first : (tables : List (List Entry)) → IsCutting target (drop end es) tables → IsCutting target es (take end es ∷ tables)
  cut_first tables h =
      let f = front_length in
      let s = at.some in
      record {
        whole = flat_map-cons (λ (x : List Entry). x) (take end es) tables ∙ ap (λ (l : List Entry). take end es ++ l) h.whole ∙ parts;
        some = (omega arith, h.some);
        apart = (each_flat (λ y. AllByRecursion (λ x. same_key x y ≡ false) (take end es)) tables (subst (IsApart (take end es)) (sym h.whole) (apart_sides (take end es) (drop end es) refl refl)), h.apart);
        filled = filled tables h.whole h.some h.filled;
        no_later = (no_earlier, h.no_later);
      }

-- ---- table by table

-- images of the first tables, and what still has to be cut
pub record IsUnderway (target made_at : ℕ) (es : List Entry) (images : List Bytes) (rest : List Entry) : Type 0 where
  pub tables : List (List Entry)
  pub spelled : images ≡ map (image made_at) tables
  pub each : AllByRecursion IsTable tables
  pub goes_on : (later : List (List Entry)) → IsCutting target rest later → IsCutting target es (tables ++ later)
  pub writable : IsWritable rest

pub begins : (target made_at : ℕ) (es : List Entry) → IsWritable es → IsUnderway target made_at es [] es
begins target made_at es h = record { tables = []; spelled = refl; each = tt; goes_on = λ later c. c; writable = h }

pub cut_none : (target : ℕ) → IsCutting target [] []
cut_none target = record { whole = refl; some = tt; apart = tt; filled = tt; no_later = tt }

pub ends : (target made_at : ℕ) (es : List Entry) (images : List Bytes) (rest : List Entry) → IsUnderway target made_at es images rest → rest ≡ [] → AreImagesOf target made_at es images
ends target made_at es images rest h none = record {
  tables = h.tables;
  cut = subst (λ (l : List (List Entry)). IsCutting target es l) (append-nil h.tables) (h.goes_on [] (subst (λ (l : List Entry). IsCutting target l []) (sym none) (cut_none target)));
  each = h.each;
  spelled = h.spelled;
}

pub goes_on : (target made_at : ℕ) (es : List Entry) (images : List Bytes) (rest table behind : List Entry) (bytes : Bytes) → IsUnderway target made_at es images rest → IsTable table → IsWritable behind → CutsFirst target rest table behind → bytes ≡ image made_at table
    → IsUnderway target made_at es (images ++ bytes ∷ []) behind
goes_on target made_at es images rest table behind bytes h is writable cut spelled = record {
  tables = h.tables ++ table ∷ [];
  spelled = ap (λ (l : List Bytes). l ++ bytes ∷ []) h.spelled ∙ ap (λ (b : Bytes). map (image made_at) h.tables ++ b ∷ []) spelled ∙ sym (map-append (image made_at) h.tables (table ∷ []));
  each = each_append IsTable h.tables (table ∷ []) h.each (is, tt);
  goes_on = λ later c. subst (λ (l : List (List Entry)). IsCutting target es l) (sym (append_assoc h.tables (table ∷ []) later)) (h.goes_on (table ∷ later) (cut later c));
  writable = writable;
}

-- ---- where a table ends

pub none_earlier_more : (target : ℕ) (es : List Entry) (end : ℕ)
    → ((j : ℕ) (d : Entry) → 0 < j → j < end → same_key (get_or es (j - 1) d) (get_or es j d) ≡ false → entry_bytes (take j es) < target)
    → ((d : Entry) → same_key (get_or es (end - 1) d) (get_or es end d) ≡ false → entry_bytes (take end es) < target)
    → (j : ℕ) (d : Entry) → 0 < j → j < end + 1 → same_key (get_or es (j - 1) d) (get_or es j d) ≡ false → entry_bytes (take j es) < target
none_earlier_more target es end before here j d some lt other = elim (cases_lt j end) [
  | inl less ↦ before j d some less other
  | inr ge ↦
      let same : j ≡ end = omega arith in
      let there : same_key (get_or es (end - 1) d) (get_or es end d) ≡ false = subst (λ (k : ℕ). same_key (get_or es (k - 1) d) (get_or es k d) ≡ false) same other in
      subst (λ (k : ℕ). entry_bytes (take k es) < target) (sym same) (here d there)
]

pub held_more : (es : List Entry) (end held size next : ℕ) (e : Entry) → end < length es → e ≡ get_or es end e → held ≡ capped (entry_bytes (take end es)) → size ≡ capped (15 + length e.key.user_key + length e.value) → next ≡ capped (held + size)
    → next ≡ capped (entry_bytes (take (end + 1) es))
held_more es end held size next e lt read h s n =
    let f = λ (x : Entry). 15 + length x.key.user_key + length x.value in
    let more = sum_by_more f es end e lt in
    let here = ap f (sym read) in
    omega (arith, h, s, n, more, here)
