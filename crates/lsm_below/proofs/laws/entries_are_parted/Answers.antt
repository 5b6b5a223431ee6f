use Rattle.lsm_below.specs.Lookups.{is_from, is_to}
use Rattle.lsm_below.proofs.Newest.{first_top}
use Rattle.lsm_below.proofs.Visible.{parted, none_past_end, found_at, none_at}
use Rattle.lsm_below.proofs.Within.{filter_between}
use Rattle.lsm_below.proofs.laws.entries_are_parted.Goals as goal

pub returns : goal.returns
returns c = record {
  ahead = λ es key s rises. parted es rises key s;
  past_end = λ es key s at rises parts. none_past_end es rises key s at parts.before parts.behind;
  found = λ es key s at e rises parts. found_at es rises key s at parts.before parts.behind e;
  other = λ es key s at e rises parts. none_at es rises key s at parts.before parts.behind e;
  newest = first_top;
  within = λ es low high. filter_between (λ e. is_from low e.key.user_key) (λ e. is_to high e.key.user_key) es;
}
