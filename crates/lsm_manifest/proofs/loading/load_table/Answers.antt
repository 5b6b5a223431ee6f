use Rattle.std.proofs.Common.{◌≡◌, List, ℕ, ap, sym, subst, rules, ◌∙◌}
use Rattle.lsm_tables.specs.Image.{IsImageOf}
use Rattle.lsm_manifest.specs.declared.fault.Fault.TheVariants.{Unrecoverable}
use Rattle.lsm_manifest.specs.Names.{table_name}
use Rattle.lsm_manifest.specs.Recovery.{found_or}
use Rattle.lsm_manifest.proofs.LoadingLemmas.{one_loads}
use Rattle.lsm_manifest.proofs.Recovering.{found_is}
use Rattle.lsm_manifest.proofs.loading.load_table.Goals as goal

pub returns-in-Ok-clause-loads : goal.returns-in-Ok-clause-loads
returns-in-Ok-clause-loads g c tells =
    let image = (g.S.Store.world c.args.store.now).gives in
    let table = c.in-Ok.table in
    let name : c.as_str.result.now ≡ table_name c.args.named.now.id = search rules in
    let same : c.in_ok-share.field-0 ≡ c.in_ok-content.content.items = search rules in
    one_loads image c.args.named.now table c.in_ok-content.content.items c.whole.result c.in-Ok.ensures.id
    (found_is (image (table_name c.args.named.now.id)) c.in_ok-content.content.items (ap (λ (n : List ℕ). found_or Unrecoverable (image n)) (sym name) ∙ c.in_ok-content.ensures.content tells))
    (subst (λ (b : List ℕ). IsImageOf table.created_at table.entries b) same c.in-Ok.ensures.entries) c.whole.ensures
