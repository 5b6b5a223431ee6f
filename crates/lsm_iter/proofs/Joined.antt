-- Lists that are one after the other, from both ends.
use Rattle.std.proofs.Common.{◌≡◌, ◌≢◌, ℕ, ◌+◌, ◌-◌, eqb, false, List, [], ◌∷◌, ◌++◌, length, get_or, set, take, Option, Some, None, refl, sym, ap, ◌∙◌, subst, arith, append-nil, append_assoc}
use Rattle.std.proofs.lemmas.Bool.{eqb-false}
use Rattle.std.proofs.lemmas.Grind.{flat_map-append}
use Rattle.std.proofs.lemmas.List.{take_all, take_more, take_more_set, take-set-le, length-set, get_or-set_same}
use Rattle.std.proofs.lemmas.List.Elements.{All-take}
use Rattle.lsm_below.specs.Entries.{Entry}
use Rattle.lsm_iter.specs.Left.{last_item, Takes}
use Rattle.lsm_iter.specs.Joined.{joined, AreFull}
use Rattle.lsm_iter.specs.declared.tree_iter.End.TheVariants.{Back}
use Rattle.lsm_iter.proofs.Tops.{last_append}
use Rattle.lsm_iter.proofs.Trims.{takes_back}

joined_push : (lists : List (List Entry)) (p : List Entry) → joined (lists ++ p ∷ []) ≡ joined lists ++ p
joined_push lists p = flat_map-append (λ l. l) lists (p ∷ []) ∙ ap (λ l. joined lists ++ l) (append-nil p)

last_with : (front p : List Entry) → p ≢ [] → last_item (front ++ p) ≡ last_item p
last_with front [] some = absurd (some refl)
last_with front (x ∷ xs) some = last_append front x xs

-- an entry was taken off
last_taken : (p q : List Entry) (o : Option Entry) → p ≢ [] → Takes Back p o q → (x : Entry) × (p ≡ q ++ x ∷ [])
last_taken p q None some h = absurd (some h.0)
last_taken p q (Some x) some h = (x, h)

-- where the last one stands
pub last_place : (lists : List (List Entry)) (n len : ℕ) → len ≡ length lists → n ≡ len → eqb len 0 ≡ false → n - 1 + 1 ≡ length lists
last_place lists n len is found some = let more = eqb-false len 0 some in omega (arith, is, found, more)

-- the last list is p, at the place n
module _ (lists : List (List Entry)) (n : ℕ) (p : List Entry) (one : n + 1 ≡ length lists) (read : p ≡ get_or lists n p) (full : AreFull lists) where
  split_last : lists ≡ take n lists ++ p ∷ []
  split_last = sym (take_all (n + 1) lists (omega arith)) ∙ take_more lists n p (omega arith) ∙ ap (λ q. take n lists ++ q ∷ []) (sym read)

  set_last : (q : List Entry) → set lists n q ≡ take n lists ++ q ∷ []
  set_last q = sym (take_all (n + 1) (set lists n q) (omega (arith, length-set lists n q))) ∙ take_more_set lists n q (omega arith)

  some : p ≢ []
  some none = full n p (omega arith) (sym read ∙ none)

  pub back_peeked : last_item (joined lists) ≡ last_item p
  back_peeked = ap (λ l. last_item (joined l)) split_last ∙ ap last_item (joined_push (take n lists) p) ∙ last_with (joined (take n lists)) p some

  pub back_skipped : (q : List Entry) → Takes Back p (last_item p) q → Takes Back (joined lists) (last_item (joined lists)) (joined (set lists n q))
  back_skipped q h =
      let taken = last_taken p q (last_item p) some h in
      let front = joined (take n lists) in
      takes_back (joined lists) (joined (set lists n q)) taken.0
      (ap joined split_last ∙ joined_push (take n lists) p ∙ ap (λ l. front ++ l) taken.1 ∙ sym (append_assoc front q (taken.0 ∷ [])) ∙ ap (λ l. l ++ taken.0 ∷ []) (sym (ap joined (set_last q) ∙ joined_push (take n lists) q)))

  -- where nothing of it is left, it goes
  back_popped : (q : List Entry) (rest : List (List Entry)) → q ≡ [] → rest ≡ take n (set lists n q) → (joined (set lists n q) ≡ joined rest) × AreFull rest
  back_popped q rest none is =
      let same : rest ≡ take n lists = is ∙ take-set-le n lists n q (omega arith) in (
        ap joined (set_last q) ∙ joined_push (take n lists) q ∙ ap (λ l. joined (take n lists) ++ l) none ∙ append-nil (joined (take n lists)) ∙ sym (ap joined same),
        subst AreFull (sym same) (All-take (λ l. l ≢ []) n lists full),
      )

  -- it loses its entry, after which it is read once more, has none, and goes
  pub back_gone : (q seen : List Entry) (rest : List (List Entry)) → Takes Back p (last_item p) q → seen ≡ get_or (set lists n q) n seen → seen ≡ [] → rest ≡ take n (set lists n q)
      → Takes Back (joined lists) (last_item (joined lists)) (joined rest) × AreFull rest
  back_gone q seen rest takes read_again none is =
      let popped = back_popped q rest (sym (read_again ∙ get_or-set_same lists n q seen (omega arith)) ∙ none) is in
      (subst (Takes Back (joined lists) (last_item (joined lists))) popped.0 (back_skipped q takes), popped.1)

  -- it grows
  pub back_pushed : (e : Entry) (q : List Entry) → q ≡ p ++ e ∷ [] → joined (set lists n q) ≡ joined lists ++ e ∷ []
  back_pushed e q is =
      let front = joined (take n lists) in
      ap joined (set_last q) ∙ joined_push (take n lists) q ∙ ap (λ l. front ++ l) is ∙ sym (append_assoc front p (e ∷ [])) ∙ ap (λ l. l ++ e ∷ []) (sym (ap joined split_last ∙ joined_push (take n lists) p))

pub none_counted : (p : List Entry) → length p ≡ 0 → p ≡ []
none_counted [] h = refl
none_counted (e ∷ p) h = absurd (omega (arith, h))
