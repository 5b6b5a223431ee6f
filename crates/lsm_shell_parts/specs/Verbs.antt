-- What words stand for.
use Rattle.std.specs.Prelude.{ℕ, List, Option, option_map, map, bytes_eq}
use Rattle.std.specs.List.{find}
use Rattle.lsm_shell_parts.specs.declared.verb.TheConstants.{VERBS}
use Rattle.lsm_shell_parts.specs.declared.verb.Verb.{Verb}

-- what the first row of a table says that has the word
abbrev pub named : List (List ℕ × Verb) → List ℕ → Option Verb
named rows word = option_map (λ row. row.1) (find (λ row. bytes_eq row.0 word) rows)

-- what a word stands for
abbrev pub verb_of : List ℕ → Option Verb
verb_of word = named (map (λ row. (row.0.now, row.1)) VERBS) word
