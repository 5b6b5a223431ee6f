use Rattle.std.proofs.Common.{◌≡◌, Some, ap, subst, Err}
use Rattle.lsm_model.specs.Views.{found_at}
use Rattle.lsm_state.specs.Core.{shown_as, latest_of, older_of}
use Rattle.lsm_state.proofs.Walks.{found_some, found_none, found_not_none}
use Rattle.lsm_state.proofs.tree.TreeState.version_at.Goals as goal

pub returns-in-Ok-clause-ok : goal.returns-in-Ok-clause-ok
returns-in-Ok-clause-ok g c =
    let i = c.self.inside in
    subst (λ t. found_at c.args.snapshot (latest_of t.core) (older_of t.core) ≡ Some (shown_as c.in-Ok.version.now)) c.self.view_is (found_some c.args.snapshot i.history c.in-Ok.version.now c.in-Ok.ensures.ok)

pub returns-in-Ok-clause-refuses : goal.returns-in-Ok-clause-refuses
returns-in-Ok-clause-refuses g c =
    rw (← c.self.view_is) (record {
      too_old = (λ e. absurd (cc e), λ none. absurd (found_not_none c.args.snapshot c.self.inside.history c.in-Ok.version.now c.in-Ok.ensures.ok none));
      only = tt;
    })

pub returns-in-Err-clause-refuses : goal.returns-in-Err-clause-refuses
returns-in-Err-clause-refuses g c =
    rw (← c.self.view_is) (record {
      too_old = (λ e. found_none c.args.snapshot c.self.inside.history (c.in-Err.ensures.too_old.0 (ap Err c.in-Err.ensures.only)), λ none. ap Err c.in-Err.ensures.only);
      only = c.in-Err.ensures.only;
    })
