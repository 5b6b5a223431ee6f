use Rattle.std.proofs.Common.{◌≡◌, Some, ◌∷◌, List, sym, subst}
use Rattle.std.proofs.lemmas.Result.{IfOk-weaker}
use Rattle.std.specs.List.{AllByRecursion}
use Rattle.lsm_tables.specs.Cutting.{IsWritable}
use Rattle.lsm_memtable.specs.Memtables.{SeenMemtable}
use Rattle.lsm_parts.specs.Held.{entries_of, held_at, FallFrom, ids_of, IsSealedIn}
use Rattle.lsm_parts.proofs.Finding.{there_is}
use Rattle.lsm_parts.proofs.Holding.{sealed_found, sealed_one}
use Rattle.lsm_parts.proofs.memtables.Memtables.share_one.Goals as goal

pub share_sealed-requires-clause-falls : goal.share_sealed-requires-clause-falls
share_sealed-requires-clause-falls c = (c.self.inside.active.id, c.self.invariant.1)

pub share_sealed-requires-clause-there : goal.share_sealed-requires-clause-there
share_sealed-requires-clause-there c =
    let i = c.self.inside in
    there_is (held_at i.sealed.items c.args.id) (sealed_found i.active i.sealed.items c.args.id (subst (λ ts. IsSealedIn ts c.args.id) (sym c.self.view_is) c.requires))

pub invariant_of-self : goal.invariant_of-self
invariant_of-self c =
    let i = c.self.inside in
    subst (λ (ts : List SeenMemtable). AllByRecursion (λ t. IsWritable t.entries) (i.active ∷ ts) × FallFrom i.active.id (ids_of ts)) (sym c.share_sealed.ensures.same) c.self.invariant

pub returns-clause-id : goal.returns-clause-id
returns-clause-id c =
    let i = c.self.inside in
    let one = sealed_one i.active i.sealed.items c.args.id (subst (λ ts. IsSealedIn ts c.args.id) (sym c.self.view_is) c.requires) in
    IfOk-weaker c.share_sealed.result (λ m. held_at i.sealed.items c.args.id ≡ Some m) (λ m. m.id ≡ c.args.id) (λ m is. (one m c.self.invariant.0 is).0) c.share_sealed.ensures.ok

pub returns-clause-entries : goal.returns-clause-entries
returns-clause-entries c =
    let i = c.self.inside in
    let one = sealed_one i.active i.sealed.items c.args.id (subst (λ ts. IsSealedIn ts c.args.id) (sym c.self.view_is) c.requires) in
    rw (← c.self.view_is) (IfOk-weaker c.share_sealed.result (λ m. held_at i.sealed.items c.args.id ≡ Some m) (λ m. m.entries ≡ entries_of (i.active ∷ i.sealed.items) c.args.id) (λ m is. (one m c.self.invariant.0 is).1.0) c.share_sealed.ensures.ok)

pub returns-clause-writable : goal.returns-clause-writable
returns-clause-writable c =
    let i = c.self.inside in
    let one = sealed_one i.active i.sealed.items c.args.id (subst (λ ts. IsSealedIn ts c.args.id) (sym c.self.view_is) c.requires) in
    IfOk-weaker c.share_sealed.result (λ m. held_at i.sealed.items c.args.id ≡ Some m) (λ m. IsWritable m.entries) (λ m is. (one m c.self.invariant.0 is).1.1) c.share_sealed.ensures.ok
