use Rattle.std.proofs.Common.{◌≡◌, ℕ, Bool, true, false, List, [], ◌∷◌, map, option_map, Bor, rules, tests, refl, ◌∙◌, ap, bytes_eq}
use Rattle.std.proofs.lemmas.Iterator.{YieldsList-from_slice}
use Rattle.std.proofs.lemmas.Iterator.Search.{find_from_yields_List}
use Rattle.std.specs.List.{find}
use Rattle.lsm_shell_parts.specs.Verbs.{named}
use Rattle.lsm_shell_parts.specs.declared.verb.Verb.{Verb}
use Rattle.lsm_shell_parts.proofs.verb.look_up.Goals as goal

-- a row is found by its word
by_test : (row : Bor (List ℕ) × Verb) (rows : List (Bor (List ℕ) × Verb)) (word : List ℕ) (b : Bool) → bytes_eq row.0.now word ≡ b
    → option_map (λ r. r.1) (find (λ r. bytes_eq r.0.now word) rows) ≡ named (map (λ r. (r.0.now, r.1)) rows) word
    → option_map (λ r. r.1) (find (λ r. bytes_eq r.0.now word) (row ∷ rows)) ≡ named (map (λ r. (r.0.now, r.1)) (row ∷ rows)) word
by_test row rows word true e rest = rw e refl
by_test row rows word false e rest = rw e rest

named-find : (rows : List (Bor (List ℕ) × Verb)) (word : List ℕ) → option_map (λ r. r.1) (find (λ r. bytes_eq r.0.now word) rows) ≡ named (map (λ r. (r.0.now, r.1)) rows) word
named-find [] word = refl
named-find (row ∷ rows) word = by_test row rows word _ refl (named-find rows word)

pub returns-in-Some : goal.returns-in-Some
returns-in-Some c =
    let found = find_from_yields_List (λ row. bytes_eq row.0.now c.args.word.now) _ _ _ c.find.ensures.ran (YieldsList-from_slice c.args.table.now cc) (λ x b q k. search (rules, tests)) in
    ap (option_map (λ row. row.1)) (rw c.in-Some.is at found) ∙ named-find c.args.table.now c.args.word.now

pub returns-in-None : goal.returns-in-None
returns-in-None c =
    let found = find_from_yields_List (λ row. bytes_eq row.0.now c.args.word.now) _ _ _ c.find.ensures.ran (YieldsList-from_slice c.args.table.now cc) (λ x b q k. search (rules, tests)) in
    ap (option_map (λ row. row.1)) (rw c.in-None.is at found) ∙ named-find c.args.table.now c.args.word.now
