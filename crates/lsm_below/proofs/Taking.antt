-- What taking the least head leaves.
use Rattle.std.proofs.Common.{◌≡◌, ℕ, ◌<◌, true, false, List, [], ◌∷◌, Option, Some, None, MatchOption, length, get_or, set, map, option_map, refl, sym, ap, ◌∙◌, arith}
use Rattle.std.specs.List.{IsFirstBest}
use Rattle.std.specs.Cmp.{IsStrictWeakOrder}
use Rattle.std.proofs.lemmas.List.{length-map, get_or-map, map-set}
use Rattle.std.proofs.lemmas.List.Sorted.{ranks_by}
use Rattle.lsm_below.specs.declared.value.InternalValue.{InternalValue}
use Rattle.lsm_below.specs.Slots.{merged, is_before, head_before, all_of}
use Rattle.lsm_below.proofs.Orders.{entry_total}
use Rattle.lsm_below.proofs.Merging.{first_item, popped, nothing_left}

-- heads are an order, none at its end
before_order : IsStrictWeakOrder is_before
before_order = ranks_by entry_total (λ e. e)

one_way : (a b : Option InternalValue) → head_before a b ≡ true → head_before b a ≡ false
one_way None b h = absurd (cc h)
one_way (Some e) None h = refl
one_way (Some e) (Some f) h = before_order.one_way e f h

chain : (a b c : Option InternalValue) → head_before a b ≡ false → head_before b c ≡ false → head_before a c ≡ false
chain None b c h k = refl
chain (Some e) None c h k = absurd (cc h)
chain (Some e) (Some f) None h k = absurd (cc k)
chain (Some e) (Some f) (Some g) h k = before_order.chain e f g h k

pub heads_order : {S : Type 0} (h : S → Option InternalValue) → IsStrictWeakOrder (λ s t. head_before (h s) (h t))
heads_order h = record { one_way = λ s t. one_way (h s) (h t); chain = λ s t u. chain (h s) (h t) (h u) }

pub head_taken : (head : Option InternalValue) (es : List InternalValue) (e : InternalValue) → head ≡ Some e → all_of head es ≡ e ∷ es
head_taken head es e h = ap (λ o. all_of o es) h

module _ {S : Type 0} (f : S → List InternalValue) (h : S → Option InternalValue) (slots : List S) (b : ℕ) (d t : S) (is_first : (k : ℕ) → k < length slots → h (get_or slots k d) ≡ first_item (f (get_or slots k d))) (best : IsFirstBest (λ s t. head_before (h s) (h t)) slots (length slots) b) where
  heads_at : (k : ℕ) → k < length slots → first_item (get_or (map f slots) k []) ≡ h (get_or slots k d)
  heads_at k lt = ap first_item (get_or-map f slots k d [] lt) ∙ sym (is_first k lt)

  none_below : (o : Option InternalValue) → h (get_or slots b d) ≡ o → (k : ℕ) → k < length (map f slots) → head_before (first_item (get_or (map f slots) k [])) o ≡ false
  none_below o is k lt =
      let lt' : k < length slots = omega (arith, length-map slots f) in
      ap (λ x. head_before x o) (heads_at k lt') ∙ ap (λ x. head_before (h (get_or slots k d)) x) (sym is) ∙ best.1 k d lt'

  all_above : (e : InternalValue) → h (get_or slots b d) ≡ Some e → (k : ℕ) → k < b → head_before (Some e) (first_item (get_or (map f slots) k [])) ≡ true
  all_above e is k lt =
      let in_range = best.0 in
      let lt' : k < length slots = omega arith in
      ap (λ x. head_before (Some e) x) (heads_at k lt') ∙ ap (λ x. head_before x (h (get_or slots k d))) (sym is) ∙ best.2 k d lt

  pub taken : {I : Type 0} (shows : I → InternalValue) (r : Option I) → option_map shows r ≡ h (get_or slots b d) → ((e : InternalValue) → h (get_or slots b d) ≡ Some e → f (get_or slots b d) ≡ e ∷ f t) → MatchOption r (merged (map f slots) ≡ []) (λ x. merged (map f slots) ≡ shows x ∷ merged (map f (set slots b t)))
  taken shows None is at = nothing_left (map f slots) (none_below None (sym is))
  taken shows (Some x) is at =
      let e = shows x in
      let lt : b < length (map f slots) = omega (arith, length-map slots f, best.0) in
      popped (map f slots) b e (f t) lt (get_or-map f slots b d [] best.0 ∙ at e (sym is)) (none_below (Some e) (sym is)) (all_above e (sym is))
      ∙ ap (λ ls. e ∷ merged ls) (sym (map-set f slots b t))

pub map_twice : {S T U : Type 0} (f : T → U) (g : S → T) (xs : List S) → map f (map g xs) ≡ map (λ s. f (g s)) xs
map_twice f g [] = refl
map_twice f g (x ∷ xs) = ap (λ l. f (g x) ∷ l) (map_twice f g xs)
