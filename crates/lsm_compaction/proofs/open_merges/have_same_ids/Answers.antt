use Rattle.std.proofs.Common.{ℕ, ◌≡◌, Bool, Decides, sym, subst}
use Rattle.std.specs.Cmp.{nat_eq_equiv}
use Rattle.std.proofs.lemmas.Map.Lookups.{hash_set_eq_decides}
use Rattle.lsm_model.specs.Steps.{among}
use Rattle.lsm_compaction.proofs.open_merges.have_same_ids.Goals as goal

pub returns : goal.returns
returns c =
    subst (λ (b : Bool). Decides b ((i : ℕ) → among c.args.ids.now.keys i ≡ among c.args.others.now.keys i)) (sym c.eq.ensures) (hash_set_eq_decides nat_eq_equiv c.args.ids.now c.args.others.now)
