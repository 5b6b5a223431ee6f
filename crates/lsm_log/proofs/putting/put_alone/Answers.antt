use Rattle.std.proofs.Common.{◌≡◌, ◌∙◌, List, ℕ, Some, subst}
use Rattle.lsm_store.specs.World.{Only, OldOr, Changes}
use Rattle.lsm_log.specs.LogNames.{record_name}
use Rattle.lsm_log.proofs.Changed.{put_leaves}
use Rattle.lsm_log.proofs.putting.put_alone.Goals as goal

pub returns-in-Ok-clause-any_moment : goal.returns-in-Ok-clause-any_moment
returns-in-Ok-clause-any_moment g c tells =
    let w = g.S.Store.world in
    let old = w c.args.store.now in
    let new = w c.replace.new.self in
    let bytes = c.args.content.now in
    let name : c.as_str.result.now ≡ record_name c.args.number = c.as_str.ensures.value ∙ c.record_name.ensures in
    put_leaves c.args.number bytes old new c.replace.result (g.met.S.Store.only_now tells c.args.store.now)
    (subst (λ (m : List ℕ). Changes m (OldOr (old.may m) (Some bytes)) (Only (Some bytes)) (Some bytes) old new c.replace.result) name (c.replace.ensures.changes tells))
