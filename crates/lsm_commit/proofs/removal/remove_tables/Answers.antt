use Rattle.std.proofs.Common.{ℕ, Bor, rules, ◌∙◌}
use Rattle.lsm_commit.specs.Foreign.{passes_then}
use Rattle.lsm_commit.proofs.Removals.{rest_none, rest_kept, rest_spared, gone_more, among_taken}
use Rattle.lsm_commit.proofs.removal.remove_tables.Goals as goal

pub loop-id-init : goal.loop-id-init
loop-id-init g c = record {
  gone = λ tells i is. absurd (cc is);
  rest = rest_none g.S.Store.tells c.args.ids.now.keys (g.S.Store.world c.args.store.now) (λ tells. g.met.S.Store.only_now tells c.args.store.now);
}

pub returns-in_err-remove_table : goal.returns-in_err-remove_table
returns-in_err-remove_table g c =
    let w = g.S.Store.world in
    let at = c.loop-id in
    let id = c.in-Some.id in
    let ids = c.args.ids.now.keys in
    let so_far = at.invariant.rest in
    let did = c.remove_table.ensures in
    let is = among_taken (λ (x : Bor ℕ). x.now) ids c.into_iter-id-iterator.result at.id-iterator c.next.new.self at.yielded c.next.result id c.into_iter-id-iterator.ensures.into_iter_gives.0 at.yielded_by c.in-Some.is c.next.ensures.steps in
    record {
      gone = search rules;
      keeps = λ tells. rest_kept ids id.now is (w c.args.store.now) (w at.store) (w c.remove_table.new.store) (so_far.keeps tells) (did.keeps tells);
      stored = λ tells. rest_spared ids id.now is (w c.args.store.now) (w at.store) (w c.remove_table.new.store) (so_far.stored tells) (did.stored tells ids is);
      passes = λ tells. passes_then (w c.args.store.now) (w at.store) (w c.remove_table.new.store) (so_far.passes tells) (did.passes tells);
      only = search rules;
      counts = search rules;
    }

pub loop-id-preserved : goal.loop-id-preserved
loop-id-preserved g c =
    let w = g.S.Store.world in
    let at = c.loop-id in
    let id = c.in-Some.id in
    let ids = c.args.ids.now.keys in
    let old = w c.args.store.now in
    let mid = w at.store in
    let new = w c.remove_table.new.store in
    let so_far = at.invariant.rest in
    let did = c.in_ok-remove_table.ensures in
    let is = among_taken (λ (x : Bor ℕ). x.now) ids c.into_iter-id-iterator.result at.id-iterator c.next.new.self at.yielded c.next.result id c.into_iter-id-iterator.ensures.into_iter_gives.0 at.yielded_by c.in-Some.is c.next.ensures.steps in
    record {
      gone = λ tells. gone_more (λ (x : Bor ℕ). x.now) at.yielded id mid new (did.keeps tells) (did.gone tells) (at.invariant.gone tells);
      rest = record {
        keeps = λ tells. rest_kept ids id.now is old mid new (so_far.keeps tells) (did.keeps tells);
        stored = λ tells. rest_spared ids id.now is old mid new (so_far.stored tells) (did.stored tells ids is);
        passes = λ tells. passes_then old mid new (so_far.passes tells) (did.passes tells);
        failures = did.counts.none (λ e. absurd (cc e)) (λ e. absurd (cc e)) ∙ so_far.failures;
      };
    }
