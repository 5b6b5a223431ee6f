use Rattle.std.proofs.Common.{refl, decimal}
use Rattle.lsm_below.specs.Numbers.{plain_number-decimal}
use Rattle.lsm_below.proofs.number.plain_numbers_are_read.Goals as goal

pub returns : goal.returns
returns c = λ n small. plain_number-decimal (decimal n) n small refl
