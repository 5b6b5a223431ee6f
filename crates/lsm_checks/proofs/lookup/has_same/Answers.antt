use Rattle.std.proofs.Common.{◌≡◌, ℕ, Some, None, Option, nat_eq, sym, subst, ◌∙◌}
use Rattle.std.specs.HashMap.{get}
use Rattle.lsm_tables.specs.Tables.{SeenTable}
use Rattle.lsm_checks.proofs.Lookups.{Row, found_among, found_same, not_found}
use Rattle.lsm_checks.proofs.lookup.has_same.Goals as goal

pub returns-in-Some : goal.returns-in-Some
returns-in-Some c = λ ts is own.
    let t = c.args.table.now in
    let u = c.in-Some.found.now in
    let at : Some u ≡ get nat_eq c.args.by_id.now t.id = subst (λ (k : ℕ). Some u ≡ get nat_eq c.args.by_id.now k) c.id.ensures c.in-Some.ensures.value in
    let row = subst (λ (o : Option SeenTable). Row ts t.id o) (sym at) (is t.id) in (
      λ yes. found_among ts t u row.0 row.1 (sym c.entries.ensures ∙ c.have_same_parts.ensures.0 yes ∙ c.entries-in-Some.ensures),
      λ there. c.have_same_parts.ensures.1 (c.entries.ensures ∙ found_same ts t u own row.0 row.1 there ∙ sym c.entries-in-Some.ensures),
    )

pub returns-in-None : goal.returns-in-None
returns-in-None c = λ ts is own.
    let t = c.args.table.now in
    let at : None ≡ get nat_eq c.args.by_id.now t.id = subst (λ (k : ℕ). None ≡ get nat_eq c.args.by_id.now k) c.id.ensures c.in-None.ensures.value in
    let row = subst (λ (o : Option SeenTable). Row ts t.id o) (sym at) (is t.id) in
    (λ yes. absurd (cc yes), λ there. absurd (not_found ts t row there))
