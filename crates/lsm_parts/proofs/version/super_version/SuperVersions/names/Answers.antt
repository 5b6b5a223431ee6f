use Rattle.std.proofs.Common.{rules, tests, ◌≡◌, ◌||◌, sym, ◌∙◌, ap}
use Rattle.std.proofs.lemmas.Iterator.Consumers.{YieldsList-from_deque}
use Rattle.std.proofs.lemmas.Iterator.Search.{any_from_yields_List}
use Rattle.std.specs.List.{list_any}
use Rattle.lsm_parts.specs.History.{names}
use Rattle.lsm_parts.proofs.version.super_version.SuperVersions.names.Goals as goal

pub returns-else-names : goal.returns-else-names
returns-else-names c =
    let older = c.self.inside.older.items in
    let later : c.any.result ≡ list_any (names c.args.id) older =
    any_from_yields_List (names c.args.id) _ _ c.any.result c.any.ensures.ran (YieldsList-from_deque older c.iter.ensures.rest) (λ x b q k. search (rules, tests)) in
    rw (← c.self.view_is) (later ∙ ap (λ b. b || list_any (names c.args.id) older) (sym c.if-names.false ∙ c.names.ensures))
