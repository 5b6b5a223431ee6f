use Rattle.std.proofs.Common.{option_copied, ap, subst, rules}
use Rattle.lsm_state.specs.Calls.{live}
use Rattle.lsm_state.proofs.Walks.{HasKey, found_key}
use Rattle.lsm_state.proofs.tree.TreeState.get_internal_entry.Goals as goal

pub returns-in_ok-copy_live-in-Some : goal.returns-in_ok-copy_live-in-Some
returns-in_ok-copy_live-in-Some g c =
    let found = found_key c.args.self.now.core c.args.key.now c.args.snapshot (option_copied c.in_ok-entry.field-0) c.in_ok-entry.ensures.ok in
    record {
      ok = search rules;
      asked = rw c.in_ok-copy_live-in-Some.ensures (subst (λ o. HasKey c.args.key.now (live o)) (ap option_copied c.in-Some.is) found);
      value = search rules;
      step = search rules;
      refuses = search rules;
    }
