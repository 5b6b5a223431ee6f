use Rattle.std.proofs.Common.{◌≡◌, ◌∙◌, ℕ, List, sym, ap, subst, true, false}
use Rattle.std.specs.Prelude.{Contains, ◌↔◌}
use Rattle.std.specs.List.{list_any, filter_map}
use Rattle.std.specs.String.{string_bytes}
use Rattle.std.specs.declared.string.String.{String}
use Rattle.std.specs.declared.alloc.Global.{Global}
use Rattle.lsm_log.specs.LogNames.{is_refused, number_in}
use Rattle.lsm_log.proofs.Listed.{numbers_are, bad_name}
use Rattle.lsm_log.proofs.listing.record_numbers.Goals as goal

pub returns-then-has_refused-clause-bad : goal.returns-then-has_refused-clause-bad
returns-then-has_refused-clause-bad g c tells told =
    let names = c.in_ok-names.names.items in
    let some : list_any (λ (s : String Global). is_refused (string_bytes s)) names ≡ true = ap (list_any (λ (s : String Global). is_refused (string_bytes s))) (sym c.deref.ensures.value) ∙ (sym c.has_refused.ensures ∙ c.if-has_refused.true) in
    bad_name (g.S.Store.world c.args.store.now).gives names (c.in_ok-names.ensures.names tells) some

pub returns-clause-lists : goal.returns-clause-lists
returns-clause-lists g c tells =
    let names = c.in_ok-names.names.items in
    let none : list_any (λ (s : String Global). is_refused (string_bytes s)) names ≡ false = ap (list_any (λ (s : String Global). is_refused (string_bytes s))) (sym c.deref.ensures.value) ∙ (sym c.has_refused.ensures ∙ c.if-has_refused.false) in
    let found : c.in_ok-numbers.numbers.items ≡ filter_map (λ (s : String Global). number_in (string_bytes s)) names = c.in_ok-numbers.ensures ∙ ap (filter_map (λ (s : String Global). number_in (string_bytes s))) c.deref-2.ensures.value in
    numbers_are (g.S.Store.world c.args.store.now).gives names (c.in_ok-names.ensures.names tells) c.plain_numbers_are_read.ensures none c.rising.result.items
    (λ k. subst (λ (l : List ℕ). Contains c.rising.result.items k ↔ Contains l k) found (c.rising.ensures.same k)) c.rising.ensures.rises
