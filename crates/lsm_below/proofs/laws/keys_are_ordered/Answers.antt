use Rattle.std.proofs.Common.{◌∙◌, refl}
use Rattle.std.proofs.lemmas.Cmp.{nat_list_cmp_total}
use Rattle.lsm_below.proofs.Keys.{below_itself, upto_trans, below_then_upto, upto_then_below, ends_range, in_by}
use Rattle.lsm_below.specs.Orders.{le_trans, le_of_lt, le_of_not_lt}
use Rattle.lsm_below.proofs.laws.keys_are_ordered.Goals as goal

pub returns : goal.returns
returns c = record {
  itself = below_itself;
  upto = upto_trans;
  then_upto = below_then_upto;
  upto_then = upto_then_below;
  le_trans = le_trans nat_list_cmp_total;
  le_of_lt = le_of_lt nat_list_cmp_total;
  le_of_not_lt = le_of_not_lt nat_list_cmp_total;
  range = ends_range;
  in_range = λ k r low high. in_by k r ∙ rw (low, high) refl;
}
