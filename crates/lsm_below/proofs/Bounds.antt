-- Where bounds part entries: a test of a bound says what a place of a key says.
use Rattle.std.proofs.Common.{◌≡◌, ℕ, ◌<◌, ◌^◌, true, false, not, nat_le, refl, ◌∙◌, ap, arith}
use Rattle.std.specs.declared.cmp.Ordering.{Ordering}
use Rattle.std.specs.declared.cmp.Ordering.TheVariants.{Less, Equal, Greater}
use Rattle.std.specs.declared.ops.Bound.TheVariants.{Included, Excluded}
use Rattle.std.specs.Ordering.{is_lt, is_le}
use Rattle.std.proofs.lemmas.Cmp.{nat_list_cmp_total}
use Rattle.std.proofs.lemmas.Bool.Decides.{nat_tests}
use Rattle.lsm_below.specs.Orders.{not_le_reversed, not_lt_reversed}
use Rattle.lsm_below.specs.Keys.{Bytes}
use Rattle.lsm_below.specs.Sorted.{by_ordering}
use Rattle.lsm_below.specs.Entries.{Entry}
use Rattle.lsm_below.specs.Lookups.{stands_before, is_from, is_to}

-- all entries of the key are below a sequence number above all
before_all : (o : Ordering) (n : ℕ) → n < 2 ^ 64 → is_lt o ≡ by_ordering o true (nat_le (2 ^ 64) n) false
before_all Less n lt = refl
before_all Equal n lt = grind (arith, nat_tests)
before_all Greater n lt = refl

-- none is below 0
before_none : (o : Ordering) (n : ℕ) → is_le o ≡ by_ordering o true (nat_le 0 n) false
before_none Less n = refl
before_none Equal n = grind (arith, nat_tests)
before_none Greater n = refl

pub from_included : (low : Bytes) (e : Entry) → e.key.seqno < 2 ^ 64 → not (is_from (Included low) e.key.user_key) ≡ stands_before low (2 ^ 64) e
from_included low e lt = ap (λ o. not (is_le o)) (nat_list_cmp_total.antisymm low e.key.user_key) ∙ (not_le_reversed _ ∙ before_all _ e.key.seqno lt)

pub from_excluded : (low : Bytes) (e : Entry) → not (is_from (Excluded low) e.key.user_key) ≡ stands_before low 0 e
from_excluded low e = ap (λ o. not (is_lt o)) (nat_list_cmp_total.antisymm low e.key.user_key) ∙ (not_lt_reversed _ ∙ before_none _ e.key.seqno)

pub to_excluded : (high : Bytes) (e : Entry) → e.key.seqno < 2 ^ 64 → is_to (Excluded high) e.key.user_key ≡ stands_before high (2 ^ 64) e
to_excluded high e lt = before_all _ e.key.seqno lt
