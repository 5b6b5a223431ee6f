-- What is left of parts, one after the other, from both ends.
use Rattle.std.proofs.Common.{◌≡◌, ◌≢◌, ℕ, ◌+◌, ◌-◌, ◌<◌, false, eqb, Bor, IsSome, IfSome, ◌↔◌, MatchOption, Option, Some, None, List, [], ◌∷◌, ◌++◌, length, get_or, set, take, drop, map, refl, sym, ap, ◌∙◌, subst, arith}
use Rattle.std.proofs.lemmas.List.{map-set, take-map, length-map}
use Rattle.std.proofs.lemmas.Bool.{eqb-false}
use Rattle.std.proofs.lemmas.List.Elements.{All-set, All-tail}
use Rattle.std.proofs.Math.ListN.{get_or-map}
use Rattle.lsm_below.specs.Entries.{Entry}
use Rattle.lsm_iter.specs.Left.{last_item, end_item, Takes}
use Rattle.lsm_iter.specs.Joined.{joined, AreFull}
use Rattle.lsm_iter.specs.declared.tree_iter.End.{End}
use Rattle.lsm_iter.specs.declared.tree_iter.End.TheVariants.{Front, Back}
use Rattle.lsm_iter.proofs.Trims.{takes_front}
use Rattle.lsm_iter.proofs.Joined.{back_skipped, back_gone, back_peeked}

-- where the last one stands
pub last_of : {P : Type 0} (items : List P) (n len : ℕ) → len ≡ length items → n ≡ len → eqb len 0 ≡ false → n - 1 + 1 ≡ length items
last_of items n len is found some = let more = eqb-false len 0 some in omega (arith, is, found, more)

module _ {P : Type 0} (left : P → List Entry) (items : List P) (n : ℕ) (x : P) (one : n + 1 ≡ length items) (read : x ≡ get_or items n x) (full : AreFull (map left items)) where
  place : n + 1 ≡ length (map left items)
  place = one ∙ sym (length-map items left)

  read_left : left x ≡ get_or (map left items) n (left x)
  read_left = ap left read ∙ sym (get_or-map left items n x)

  pub last_seen : last_item (left x) ≡ last_item (joined (map left items))
  last_seen = sym (back_peeked (map left items) n (left x) place read_left full)

  pub last_skipped : (y : P) → Takes Back (left x) (last_item (left x)) (left y) → Takes Back (joined (map left items)) (last_item (joined (map left items))) (joined (map left (set items n y)))
  last_skipped y takes = rw (map-set left items n y) (back_skipped (map left items) n (left x) place read_left full (left y) takes)

  pub last_full : (y : P) → left y ≢ [] → AreFull (map left (set items n y))
  last_full y some = rw (map-set left items n y) (All-set (λ l. l ≢ []) (map left items) n (left y) some full)

  -- where nothing is left of it, it goes
  pub last_gone : (y seen : P) (rest : List P) → Takes Back (left x) (last_item (left x)) (left y) → seen ≡ get_or (set items n y) n seen → left seen ≡ [] → rest ≡ take n (set items n y)
      → Takes Back (joined (map left items)) (last_item (joined (map left items))) (joined (map left rest)) × AreFull (map left rest)
  last_gone y seen rest takes again none is =
      back_gone (map left items) n (left x) place read_left full (left y) (left seen) (map left rest) takes
      (ap left again ∙ sym (get_or-map left (set items n y) n seen) ∙ ap (λ l. get_or l n (left seen)) (map-set left items n y)) none
      (ap (map left) is ∙ sym (take-map left n (set items n y)) ∙ ap (take n) (map-set left items n y))

-- an entry was taken off
first_taken : (p q : List Entry) → p ≢ [] → Takes Front p (end_item Front p) q → (e : Entry) × (p ≡ e ∷ q)
first_taken [] q some h = absurd (some refl)
first_taken (e ∷ p) q some h = (e, h)

module _ {P : Type 0} (left : P → List Entry) where
  pub first_skipped : (items : List P) (x y : P) → 0 < length items → x ≡ get_or items 0 x → AreFull (map left items) → Takes Front (left x) (end_item Front (left x)) (left y)
      → Takes Front (joined (map left items)) (end_item Front (joined (map left items))) (joined (map left (set items 0 y)))
  first_skipped [] x y some read full takes = absurd (omega arith)
  first_skipped (z ∷ zs) x y some read full takes =
      let has : left x ≢ [] = λ none. full 0 (left z) (omega arith) (ap left (sym read) ∙ none) in
      let taken = first_taken (left x) (left y) has takes in
      takes_front (joined (map left (z ∷ zs))) (joined (map left (y ∷ zs))) taken.0 (ap (λ l. l ++ joined (map left zs)) (ap left (sym read) ∙ taken.1))

  pub first_full : (items : List P) (y : P) → AreFull (map left items) → left y ≢ [] → AreFull (map left (set items 0 y))
  first_full items y full some = rw (map-set left items 0 y) (All-set (λ l. l ≢ []) (map left items) 0 (left y) some full)

  -- where nothing is left of it, it goes
  pub first_gone : (items : List P) (x y seen : P) (rest : List P) → 0 < length items → x ≡ get_or items 0 x → AreFull (map left items) → Takes Front (left x) (end_item Front (left x)) (left y)
      → seen ≡ get_or (set items 0 y) 0 seen → left seen ≡ [] → rest ≡ drop 1 (set items 0 y)
      → Takes Front (joined (map left items)) (end_item Front (joined (map left items))) (joined (map left rest)) × AreFull (map left rest)
  first_gone [] x y seen rest some read full takes again none is = absurd (omega arith)
  first_gone (z ∷ zs) x y seen rest some read full takes again none is =
      let all = first_skipped (z ∷ zs) x y some read full takes in
      let gone : joined (map left (y ∷ zs)) ≡ joined (map left rest) = ap (λ l. l ++ joined (map left zs)) (ap left (sym again) ∙ none) ∙ ap (λ l. joined (map left l)) (sym is) in
      (subst (Takes Front (joined (map left (z ∷ zs))) (end_item Front (joined (map left (z ∷ zs))))) gone all, subst (λ l. AreFull (map left l)) (sym is) (All-tail (λ l. l ≢ []) (left z) (map left zs) full))

-- the part that stands last, where there is one
pub last_given : {P : Type 0} (left : P → List Entry) (items : List P) (len : ℕ) (end : End) (r : Option (Bor P)) → len ≡ length items → AreFull (map left items) → end ≡ Back → (IsSome r ↔ (0 < len)) → IfSome r (λ x. x.now ≡ get_or items (len - 1) x.now)
    → MatchOption r (joined (map left items) ≡ []) (λ x. end_item end (left x.now) ≡ end_item end (joined (map left items)))
last_given left [] len end None is full at_back some found = refl
last_given left (z ∷ zs) len end None is full at_back some found = absurd (let bad = some.1 (omega (arith, is)) in cc bad)
last_given left items len end (Some x) is full at_back some found =
    let more = some.0 refl in
    ap (λ e. end_item e (left x.now)) at_back ∙ last_seen left items (len - 1) x.now (omega (arith, is, more)) found full ∙ ap (λ e. end_item e (joined (map left items))) (sym at_back)
