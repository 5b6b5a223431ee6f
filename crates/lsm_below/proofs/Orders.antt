-- The order of entries, and lists that ascend by an order.
use Rattle.std.proofs.Common.{◌≡◌, Bool, true, false, cond, List, [], ◌∷◌, filter}
use Rattle.std.specs.List.{AllByRecursion}
use Rattle.std.specs.Cmp.{IsTotalOrder}
use Rattle.std.specs.declared.cmp.Ordering.{Ordering}
use Rattle.std.specs.Ordering.{is_le}
use Rattle.std.proofs.lemmas.Cmp.{on_total, then_total, back_total, nat_cmp_total, nat_list_cmp_total}
use Rattle.lsm_below.specs.Entries.{entry_cmp}
use Rattle.lsm_below.specs.Streams.{Ascends}
use Rattle.lsm_below.specs.Each.{each_weaker, each_filter}
use Rattle.lsm_below.specs.Orders.{le_trans}

pub entry_total : IsTotalOrder entry_cmp
entry_total = on_total (λ e. e.key) (then_total (on_total (λ k. k.user_key) nat_list_cmp_total) (back_total (on_total (λ k. k.seqno) nat_cmp_total)))

module _ {X : Type 0} {R : X → X → Ordering} (o : IsTotalOrder R) where
  pub below_all : (x y : X) (xs : List X) → is_le (R x y) ≡ true → AllByRecursion (λ z. is_le (R y z) ≡ true) xs → AllByRecursion (λ z. is_le (R x z) ≡ true) xs
  below_all x y xs h k = each_weaker (λ z. is_le (R y z) ≡ true) (λ z. is_le (R x z) ≡ true) (λ z l. le_trans o x y z h l) xs k

pub ascends_filter : {X : Type 0} (R : X → X → Ordering) (t : X → Bool) (xs : List X) → Ascends R xs → Ascends R (filter t xs)
ascends_filter R t [] h = tt
ascends_filter R t (x ∷ xs) h = elim (t x) as (λ b. Ascends R (cond b (x ∷ filter t xs) (filter t xs))) [
  | true ↦ (each_filter (λ y. is_le (R x y) ≡ true) t xs h.0, ascends_filter R t xs h.1)
  | false ↦ ascends_filter R t xs h.1
]
