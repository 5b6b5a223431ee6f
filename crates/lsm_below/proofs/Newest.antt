-- In a sorted list the first visible entry is the newest one.
use Rattle.std.proofs.Common.{◌≡◌, ℕ, Bool, true, false, cond, ltb, ◌&&◌, List, [], ◌∷◌, Some, None, Option, refl, sym, ◌∙◌, ap, le-ltb}
use Rattle.std.specs.declared.cmp.Ordering.TheVariants.{Less}
use Rattle.std.proofs.lemmas.List.Elements.{All-contains}
use Rattle.lsm_below.specs.declared.value.InternalValue.{InternalValue}
use Rattle.lsm_below.specs.Entries.{entry_cmp}
use Rattle.lsm_below.specs.Lookups.{is_visible}
use Rattle.lsm_below.specs.Sorted.{Rises, first}
use Rattle.lsm_below.specs.Keys.{is_same}
use Rattle.lsm_below.specs.Orders.{same_swap}
use Rattle.lsm_below.specs.Entries.{top, later}
use Rattle.lsm_below.proofs.Visible.{behind_lower, visible_parts, is_top}

as_both : (b c : Bool) → cond b c false ≡ (b && c)
as_both true c = refl
as_both false c = refl

visible_as : (key : List ℕ) (s : ℕ) (e : InternalValue) → is_visible key s e ≡ (is_same key e.key.user_key && ltb e.key.seqno s)
visible_as key s e = ap (λ b. cond b (ltb e.key.seqno s) false) (same_swap e.key.user_key key) ∙ as_both (is_same key e.key.user_key) (ltb e.key.seqno s)

pub first_top : (xs : List InternalValue) (key : List ℕ) (s : ℕ) → Rises entry_cmp xs → first (is_visible key s) xs ≡ top key s xs
first_top [] key s rises = refl
first_top (x ∷ xs) key s rises = go (first_top xs key s rises.1) (is_visible key s x) refl
  where
    over : (o : Option InternalValue) → first (is_visible key s) xs ≡ o → is_visible key s x ≡ true → Some x ≡ later x o
    over None is here = refl
    over (Some f) is here =
        let t = is_top xs key s f rises.1 is in
        let less : entry_cmp x f ≡ Less = All-contains (λ y. entry_cmp x y ≡ Less) xs f rises.0 t.there in
        let low = behind_lower x f less ((visible_parts key s x here).0 ∙ sym t.key_is) in
        sym (ap (λ b. cond b (Some f) (Some x)) (le-ltb x.key.seqno f.key.seqno low))

    go : first (is_visible key s) xs ≡ top key s xs → (b : Bool) → is_visible key s x ≡ b → cond b (Some x) (first (is_visible key s) xs) ≡ cond (is_same key x.key.user_key && ltb x.key.seqno s) (later x (top key s xs)) (top key s xs)
    go ih true is = over (first (is_visible key s) xs) refl is ∙ ap (later x) ih ∙ ap (λ b. cond b (later x (top key s xs)) (top key s xs)) (sym is ∙ visible_as key s x)
    go ih false is = ih ∙ ap (λ b. cond b (later x (top key s xs)) (top key s xs)) (sym is ∙ visible_as key s x)
