use Rattle.std.proofs.Common.{◌∷◌, [], refl, ◌∙◌, arith, rules}
use Rattle.lsm_commit.specs.Foreign.{passes_still, passes_then}
use Rattle.lsm_commit.proofs.Removals.{removed_keeps, stored_more, none_stored, written_gone, one_among}
use Rattle.lsm_commit.proofs.removal.remove_written.Goals as goal

pub each-init : goal.each-init
each-init g c =
    let w = g.S.Store.world c.args.store.now in
    record {
      from = omega arith;
      gone = λ tells i le lt. absurd (omega (arith, le, lt));
      stored = λ tells. none_stored c.args.first w (g.met.S.Store.only_now tells c.args.store.now);
      passes = λ tells. passes_still w (g.met.S.Store.only_now tells c.args.store.now);
      failures = refl;
    }

pub returns-in_err-remove_table : goal.returns-in_err-remove_table
returns-in_err-remove_table g c =
    let w = g.S.Store.world in
    let at = c.each in
    let did = c.remove_table.ensures in
    record {
      gone = search rules;
      stored = λ tells. stored_more c.args.first (w c.args.store.now) (w at.store) (w c.remove_table.new.store) (at.invariant.stored tells) (removed_keeps at.id c.args.first (w at.store) (w c.remove_table.new.store) at.invariant.from (did.stored tells (at.id ∷ []) (one_among at.id)));
      passes = λ tells. passes_then (w c.args.store.now) (w at.store) (w c.remove_table.new.store) (at.invariant.passes tells) (did.passes tells);
      only = search rules;
      counts = search rules;
    }

pub each-preserved : goal.each-preserved
each-preserved g c =
    let w = g.S.Store.world in
    let at = c.each in
    let did = c.in_ok-remove_table.ensures in
    let le = at.invariant.from in
    record {
      from = omega (arith, le);
      gone = λ tells. written_gone c.args.first at.id (w at.store) (w c.remove_table.new.store) (did.keeps tells) (did.gone tells) (at.invariant.gone tells);
      stored = λ tells. stored_more c.args.first (w c.args.store.now) (w at.store) (w c.remove_table.new.store) (at.invariant.stored tells) (removed_keeps at.id c.args.first (w at.store) (w c.remove_table.new.store) le (did.stored tells (at.id ∷ []) (one_among at.id)));
      passes = λ tells. passes_then (w c.args.store.now) (w at.store) (w c.remove_table.new.store) (at.invariant.passes tells) (did.passes tells);
      failures = did.counts.none (λ e. absurd (cc e)) (λ e. absurd (cc e)) ∙ at.invariant.failures;
    }
