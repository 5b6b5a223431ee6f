use Rattle.std.proofs.Common.{◌≡◌, true, ap}
use Rattle.std.specs.Ordering.{is_eq}
use Rattle.std.proofs.lemmas.Cmp.{nat_list_cmp_total, tied_itself}
use Rattle.lsm_below.specs.Keys.{Bytes, is_same}
use Rattle.lsm_tables.proofs.Keeping.{kept_writable}
use Rattle.lsm_tables.proofs.multi_writer.kept_is_writable.Goals as goal

of_itself : (k : Bytes) → is_same k k ≡ true
of_itself k = ap is_eq (tied_itself nat_list_cmp_total k)

pub returns : goal.returns
returns c = kept_writable of_itself
