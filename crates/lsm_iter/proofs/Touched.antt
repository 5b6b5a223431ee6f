-- Tables of a run that don't reach into bounds have nothing there.
use Rattle.std.proofs.Common.{◌≡◌, ℕ, zero, suc, ◌+◌, ◌-◌, ◌<◌, ◌≤◌, Bool, true, false, not, ◌&&◌, cond, filter, List, [], ◌∷◌, ◌++◌, length, get_or, take, drop, flat_map, slice_range, refl, sym, ap, ◌∙◌, subst, arith, append-nil, inl, inr}
use Rattle.std.specs.List.{All, AllByRecursion}
use Rattle.std.specs.declared.cmp.Ordering.{Ordering}
use Rattle.std.specs.declared.cmp.Ordering.TheVariants.{Less, Equal, Greater}
use Rattle.std.specs.declared.ops.Bound.{Bound}
use Rattle.std.specs.declared.ops.Bound.TheVariants.{Included, Excluded, Unbounded}
use Rattle.std.specs.Ordering.{is_le, is_lt, ordering_reverse}
use Rattle.std.proofs.lemmas.Bool.{and_parts, and_cases, not-false, not-true}
use Rattle.std.proofs.lemmas.Cmp.{nat_list_cmp_total}
use Rattle.std.proofs.lemmas.Grind.{flat_map-append}
use Rattle.std.proofs.lemmas.List.{take-append-drop, get_or-take, get_or-drop, length-take-le, length-drop}
use Rattle.std.proofs.lemmas.List.Elements.{All-head, All-tail}
use Rattle.lsm_below.specs.Keys.{Bytes, bytes_cmp, is_below}
use Rattle.lsm_below.specs.Entries.{Entry}
use Rattle.lsm_below.specs.Lookups.{is_from, is_to}
use Rattle.lsm_below.specs.Ranges.{Range, in_range}
use Rattle.lsm_below.specs.Runs.{IsRun, IsSpan, is_short_of, starts_in, is_touched}
use Rattle.lsm_tables.specs.Tables.{SeenTable, range_of}
use Rattle.lsm_iter.specs.Trims.{counts}
use Rattle.lsm_below.specs.Slots.{firsts}
use Rattle.lsm_below.specs.Orders.{below_less, le_less, less_le}
use Rattle.lsm_below.specs.Each.{each_weaker}
use Rattle.lsm_below.specs.FilterLaws.{filter_none}
use Rattle.lsm_iter.specs.Sound.{IsSound}
use Rattle.lsm_iter.proofs.Disjoint.{left_in}

-- ---- keys

back : (a b : Bytes) → bytes_cmp a b ≡ Less → bytes_cmp b a ≡ Greater
back a b h = nat_list_cmp_total.antisymm b a ∙ ap ordering_reverse h

no_less : (a b : Bytes) → bytes_cmp a b ≡ Less → is_le (bytes_cmp b a) ≡ false
no_less a b h = ap is_le (back a b h)

-- not less, where something would be that isn't
not_less : (r : Ordering) (b : Bool) → (r ≡ Less → b ≡ true) → b ≡ false → is_lt r ≡ false
not_less Less b then other = absurd (let bad : true ≡ false = sym (then refl) ∙ other in cc bad)
not_less Equal b then other = refl
not_less Greater b then other = refl

not_below : (a b c : Bytes) → is_below a b ≡ false → is_le (bytes_cmp c b) ≡ true → is_lt (bytes_cmp a c) ≡ false
unfolding is_below
not_below a b c h le = not_less (bytes_cmp a c) (is_below a b) (λ less. ap is_lt (less_le a c b less le)) h

not_above : (a b c : Bytes) → is_below b a ≡ false → is_le (bytes_cmp b c) ≡ true → is_lt (bytes_cmp c a) ≡ false
unfolding is_below
not_above a b c h le = not_less (bytes_cmp c a) (is_below b a) (λ less. ap is_lt (le_less b c a le less)) h

short_outside : (low : Bound Bytes) (r : Range) (k : Bytes) → is_le (bytes_cmp k r.max) ≡ true → is_short_of low r ≡ true → is_from low k ≡ false
short_outside (Included b) r k le h = no_less k b (le_less k r.max b le (below_less r.max b h))
short_outside (Excluded b) r k le h = not_below b r.max k (not-true (is_below b r.max) h) le
short_outside Unbounded r k le h = absurd (cc h)

late_outside : (high : Bound Bytes) (r : Range) (k : Bytes) → is_le (bytes_cmp r.min k) ≡ true → starts_in high r ≡ false → is_to high k ≡ false
late_outside (Included b) r k le h = no_less b k (less_le b r.min k (below_less b r.min (not-false (is_below b r.min) h)) le)
late_outside (Excluded b) r k le h = not_above b r.min k h le
late_outside Unbounded r k le h = absurd (cc h)

and_no : (a b : Bool) → b ≡ false → (a && b) ≡ false
and_no true b h = h
and_no false b h = refl

-- ---- lists

flat_none : {X A : Type 0} (f : X → List A) (xs : List X) → All (λ x. f x ≡ []) xs → flat_map f xs ≡ []
flat_none f [] h = refl
flat_none f (x ∷ xs) h = ap (λ l. l ++ flat_map f xs) (All-head (λ x. f x ≡ []) x xs h) ∙ flat_none f xs (All-tail (λ x. f x ≡ []) x xs h)

module _ {X : Type 0} where
  each_take : (P : X → Type 0) (n : ℕ) (xs : List X) → AllByRecursion P xs → AllByRecursion P (take n xs)
  each_take P zero xs h = tt
  each_take P (suc n) [] h = tt
  each_take P (suc n) (x ∷ xs) h = (h.0, each_take P n xs h.1)

  run_take : (range : X → Range) (n : ℕ) (xs : List X) → IsRun range xs → IsRun range (take n xs)
  run_take range zero xs h = tt
  run_take range (suc n) [] h = tt
  run_take range (suc n) (x ∷ xs) h = (h.0, each_take (λ y. is_below (range x).max (range y).min ≡ true) n xs h.1, run_take range n xs h.2)

  run_drop : (range : X → Range) (n : ℕ) (xs : List X) → IsRun range xs → IsRun range (drop n xs)
  run_drop range zero xs h = h
  run_drop range (suc n) [] h = tt
  run_drop range (suc n) (x ∷ xs) h = run_drop range n xs h.2

  pub run_range : (range : X → Range) (i j : ℕ) (xs : List X) → IsRun range xs → IsRun range (slice_range xs i j)
  run_range range i j xs h = run_take range (j - i) (drop i xs) (run_drop range i xs h)

-- ---- tables

module _ (low high : Bound Bytes) (s : ℕ) where
  untouched : (t : SeenTable) → IsSound t → is_touched low high (range_of t.entries) ≡ false → left_in low high s t ≡ []
  untouched t sound h =
      let r : Range = range_of t.entries in
      let outside : (e : Entry) → in_range e.key.user_key r ≡ true → (is_from low e.key.user_key && is_to high e.key.user_key) ≡ false =
      λ e inside.
      let ends = and_parts (is_le (bytes_cmp r.min e.key.user_key)) (is_le (bytes_cmp e.key.user_key r.max)) inside in
      elim (and_cases (not (is_short_of low r)) (starts_in high r) h) [
        | inl short ↦ ap (λ b. b && is_to high e.key.user_key) (short_outside low r e.key.user_key ends.1 (not-false (is_short_of low r) short))
        | inr late ↦ and_no (is_from low e.key.user_key) (is_to high e.key.user_key) (late_outside high r e.key.user_key ends.0 late)
      ] in
      ap (λ l. firsts (filter (counts s) l))
      (filter_none (λ e. is_from low e.key.user_key && is_to high e.key.user_key) t.entries
      (each_weaker (λ e. in_range e.key.user_key r ≡ true) (λ e. (is_from low e.key.user_key && is_to high e.key.user_key) ≡ false) outside t.entries sound.covered))

  pub none_touched : (ts : List SeenTable) → All IsSound ts → filter (λ t. is_touched low high (range_of t.entries)) ts ≡ [] → flat_map (left_in low high s) ts ≡ []
  none_touched [] sound h = refl
  none_touched (t ∷ ts) sound h = go (is_touched low high (range_of t.entries)) refl h (none_touched ts (All-tail IsSound t ts sound))
    where
      rest : List SeenTable
      rest = filter (λ u. is_touched low high (range_of u.entries)) ts

      go : (b : Bool) → is_touched low high (range_of t.entries) ≡ b → cond b (t ∷ rest) rest ≡ [] → (rest ≡ [] → flat_map (left_in low high s) ts ≡ []) → flat_map (left_in low high s) (t ∷ ts) ≡ []
      go true is h ih = absurd (cc h)
      go false is h ih = ap (λ l. l ++ flat_map (left_in low high s) ts) (untouched t (All-head IsSound t ts sound) is) ∙ ih h

  pub span_holds : (ts : List SeenTable) (first last : ℕ) → All IsSound ts → IsSpan (λ t. is_touched low high (range_of t.entries)) ts first last → flat_map (left_in low high s) (slice_range ts first (last + 1)) ≡ flat_map (left_in low high s) ts
  span_holds ts first last sound span =
      let f = left_in low high s in
      let n : ℕ = last + 1 - first in
      let inside : last < length ts = span.within in
      let order : first ≤ last = span.in_order in
      let before : flat_map f (take first ts) ≡ [] = flat_none f (take first ts) (λ k d lt.
      let up : k < first = omega (arith, length-take-le first ts (omega arith)) in
      subst (λ t. f t ≡ []) (sym (get_or-take first ts k d up)) (untouched (get_or ts k d) (sound k d (omega arith)) (span.before k d up))) in
      let behind : flat_map f (drop n (drop first ts)) ≡ [] = flat_none f (drop n (drop first ts)) (λ k d lt.
      let up : first + (n + k) < length ts = omega (arith, length-drop n (drop first ts), length-drop first ts) in
      subst (λ t. f t ≡ []) (sym (get_or-drop n (drop first ts) k d ∙ get_or-drop first ts (n + k) d))
      (untouched (get_or ts (first + (n + k)) d) (sound (first + (n + k)) d up) (span.behind (first + (n + k)) d (omega arith) up))) in
      let tail : flat_map f (drop first ts) ≡ flat_map f (take n (drop first ts)) =
      sym (ap (flat_map f) (take-append-drop n (drop first ts))) ∙ flat_map-append f (take n (drop first ts)) (drop n (drop first ts)) ∙ ap (λ l. flat_map f (take n (drop first ts)) ++ l) behind ∙ append-nil (flat_map f (take n (drop first ts))) in
      sym (sym (ap (flat_map f) (take-append-drop first ts)) ∙ flat_map-append f (take first ts) (drop first ts) ∙ ap (λ l. l ++ flat_map f (drop first ts)) before ∙ tail)
