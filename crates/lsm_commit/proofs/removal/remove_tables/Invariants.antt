use Rattle.std.proofs.Common.{◌≡◌, ℕ, true, None, map}
use Rattle.lsm_model.specs.Steps.{among}
use Rattle.lsm_manifest.specs.Names.{table_name}
use Rattle.lsm_commit.proofs.Removals.{KeepsRest}
use Rattle.lsm_commit.proofs.removal.remove_tables.Given as goal

abbrev pub invariant-loop-id : goal.invariant-loop-id
invariant-loop-id g l =
    let w = g.S.Store.world in
    record {
      gone : g.S.Store.tells → (i : ℕ) → among (map (λ x. x.now) l.yielded) i ≡ true → (w l.store).gives (table_name i) ≡ None;
      rest : KeepsRest g.S.Store.tells l.ids.keys (w l.fn.store) (w l.store);
    }
