use Rattle.std.proofs.Common.{[], ◌∷◌, sym, subst}
use Rattle.lsm_parts.specs.Held.{FallFrom, ids_of}
use Rattle.lsm_parts.proofs.Fitting.{put_all_fit}
use Rattle.lsm_parts.proofs.memtables.Memtables.insert_revocably.Goals as goal

pub invariant_of-self : goal.invariant_of-self
invariant_of-self c =
    let i = c.self.inside in
    let put = c.insert_revocably-done.ensures in (
      (record { each = put_all_fit c.insert_revocably-done.result (c.args.entry ∷ []) i.active c.insert_revocably-done.new.self put.ok put.err (c.requires, tt) c.self.invariant.0.0; rises = c.facts.ensures }, c.self.invariant.0.1),
      subst (λ n. FallFrom n (ids_of i.sealed.items)) (sym put.id) c.self.invariant.1,
    )
