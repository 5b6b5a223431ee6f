use Rattle.std.proofs.Common.{◌≡◌, ℕ, ◌<◌, ◌≤◌, true, false, List, [], ⊎_elim, sym, ◌∙◌, subst}
use Rattle.std.proofs.lemmas.Bool.{cases_lt}
use Rattle.lsm_below.specs.Runs.{IsSpan}
use Rattle.lsm_tables.specs.Tables.{SeenTable}
use Rattle.lsm_model.specs.Steps.{among}
use Rattle.lsm_checks.specs.Choices.{IsFirstOf, IsLastOf}
use Rattle.lsm_checks.proofs.indexes.pick_run_indexes.Goals as goal

span : (ids : List ℕ) (ts : List SeenTable) (first last : ℕ) → IsFirstOf ids ts first → IsLastOf ids ts last → IsSpan (λ t. among ids t.id) ts first last
span ids ts first last f l = record {
  in_order = ⊎_elim
      (λ (h : last < first). let d : SeenTable = record { id = 0; created_at = 0; entries = [] } in let z : true ≡ false = sym (l.passes d) ∙ f.before last d h in absurd (cc z))
      (λ (h : first ≤ last). h)
      (cases_lt last first);
  within = l.within;
  first_passes = f.passes;
  last_passes = l.passes;
  before = f.before;
  behind = l.behind;
}

pub returns : goal.returns
returns c =
    let ids = c.args.ids.now.keys in
    let first = subst (λ (ts : List SeenTable). IsFirstOf ids ts c.in_ok-first.first) c.as_slice.ensures c.in_ok-first.ensures in
    let last = subst (λ (ts : List SeenTable). IsLastOf ids ts c.in_ok-last.last) c.as_slice-2.ensures c.in_ok-last.ensures in
    span ids c.args.run.now c.in_ok-first.first c.in_ok-last.last first last
