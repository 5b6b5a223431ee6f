use Rattle.std.proofs.Common.{◌≡◌, map, rules, tests, ◌==◌}
use Rattle.std.proofs.lemmas.Iterator.{YieldsList-from_slice}
use Rattle.std.proofs.lemmas.Iterator.Consumers.{map_from_collect}
use Rattle.std.proofs.lemmas.Iterator.Search.{all_from_yields_List}
use Rattle.std.proofs.lemmas.Iterator.Splits.{YieldsList-from_slice_split}
use Rattle.lsm_shell_parts.specs.Word.{is_word, parts_of}
use Rattle.lsm_shell_parts.proofs.Parts.{words_if}
use Rattle.lsm_shell_parts.proofs.word.split_words.Goals as goal

pub returns : goal.returns
returns c =
    let parts : map (λ part. part.now) c.in_ok-parts.parts.items ≡ parts_of c.args.line.now = rw c.in_ok-parts.was at (map_from_collect _ c.collect.ensures.ran (YieldsList-from_slice_split _ (λ b. b == 32) c.args.line.now c.split.ensures.rest c.split.ensures.done c.split.ensures.closure (λ x b q k. search (rules, tests)))) in
    let all = all_from_yields_List (λ part. is_word part.now) _ _ c.all-are_words.result c.all-are_words.ensures.ran (YieldsList-from_slice c.in_ok-parts.parts.items cc) (λ x b q k. search (rules, tests)) in
    rw c.then_some.ensures (words_if c.args.line.now c.in_ok-parts.parts c.all-are_words.result parts all)
