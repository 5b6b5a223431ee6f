use Rattle.std.proofs.Common.{rules, tests, arith}
use Rattle.std.proofs.lemmas.Bool.Decides.{nat_tests}
use Rattle.std.proofs.lemmas.Iterator.{YieldsList-from_slice}
use Rattle.std.proofs.lemmas.Iterator.Search.{all_from_yields_List}
use Rattle.lsm_shell_parts.specs.Word.{is_word_byte}
use Rattle.lsm_shell_parts.proofs.word.is_word.Goals as goal

pub returns-then-not-is_empty : goal.returns-then-not-is_empty
returns-then-not-is_empty c =
    let all = all_from_yields_List is_word_byte _ _ c.all.result c.all.ensures.ran (YieldsList-from_slice c.args.bytes.now cc) (λ x b q k. search (rules, tests)) in
    grind (arith, nat_tests)
