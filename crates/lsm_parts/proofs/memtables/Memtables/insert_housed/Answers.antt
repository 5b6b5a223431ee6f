use Rattle.std.proofs.Common.{sym, subst}
use Rattle.lsm_parts.specs.Held.{FallFrom, ids_of}
use Rattle.lsm_parts.proofs.Fitting.{put_fits}
use Rattle.lsm_parts.proofs.memtables.Memtables.insert_housed.Goals as goal

pub invariant_of-self : goal.invariant_of-self
invariant_of-self c =
    let i = c.self.inside in
    let put = c.insert_housed-sizes.ensures in (
      (record { each = put_fits c.insert_housed-sizes.result c.args.entry i.active c.insert_housed-sizes.new.self put.ok put.err c.requires c.self.invariant.0.0; rises = c.facts.ensures }, c.self.invariant.0.1),
      subst (λ n. FallFrom n (ids_of i.sealed.items)) (sym put.id) c.self.invariant.1,
    )
