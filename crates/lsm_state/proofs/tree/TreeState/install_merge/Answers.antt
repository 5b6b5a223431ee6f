use Rattle.std.proofs.Common.{Err, inl, ap, sym, subst, ◌∙◌, rules}
use Rattle.lsm_commit.specs.Causes.{causes_then}
use Rattle.lsm_state.specs.Core.{versions_left}
use Rattle.lsm_state.specs.Compactions.{InstallsMerge}
use Rattle.lsm_state.proofs.Installing.{upholds_join}
use Rattle.lsm_state.proofs.Causing.{removes_drawn}
use Rattle.lsm_state.proofs.tree.TreeState.install_merge.Goals as goal

pub returns-in-Err : goal.returns-in-Err
returns-in-Err g c =
    let w = g.S.Store.world in
    let old = c.args.self.now in
    let mid = c.install_written.new.self in
    let new = c.remove_drawn.new.self in
    let did = c.in-Err.ensures in
    let behind = c.remove_drawn.ensures in
    record {
      installs = subst (InstallsMerge c.args.merged.now.job (Err c.in-Err.error) old.core) (sym behind.core) did.installs;
      done = tt;
      upholds = λ tells. upholds_join (w old.store) (w mid.store) (w new.store) old.core mid.core new.core (ap versions_left behind.core) (did.upholds tells) (behind.upholds tells);
      files = record {
        causes = causes_then _ ⊥ _ (w old.store) (w mid.store) (w new.store) did.causes behind.causes (λ blamed. inl blamed);
        gone = search rules;
        rests = tt;
        refused = λ tells small known before. removes_drawn w c.get-first.result old mid new (c.get-first.ensures ∙ ap (λ t. t.core.next_table) c.self.view_is) behind.core did.causes.rises (behind.gone tells) small;
        no_call = search rules;
      };
    }
