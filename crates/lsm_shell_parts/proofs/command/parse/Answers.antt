use Rattle.std.proofs.Common.{◌≡◌, None, IfOk, ap, subst}
use Rattle.std.specs.Prelude.{option_and_then}
use Rattle.lsm_shell_parts.specs.Command.{command_of, command_of_words}
use Rattle.lsm_shell_parts.proofs.Spelling.{IsSpelledBy-same, IsSpelledBy-if_ok}
use Rattle.lsm_shell_parts.proofs.command.parse.Goals as goal

pub returns-in-Some : goal.returns-in-Some
returns-in-Some c =
    let words = ap (option_and_then command_of_words) (rw c.in-Some.is at c.in_ok-words.ensures) in
    let value : IfOk c.parse_words.result (λ found. found ≡ command_of c.args.line.now) = subst (λ o. IfOk c.parse_words.result (λ found. found ≡ o)) words (rw c.deref.ensures.value at c.parse_words.ensures) in
    record { value = value; spelled = IsSpelledBy-if_ok c.args.line.now c.parse_words.result value }

pub returns-in-None : goal.returns-in-None
returns-in-None c =
    let value : None ≡ command_of c.args.line.now = ap (option_and_then command_of_words) (rw c.in-None.is at c.in_ok-words.ensures) in
    record { value = value; spelled = IsSpelledBy-same c.args.line.now None value }
