use Rattle.lsm_commit.proofs.Passing.{passes_persisted}
use Rattle.std.proofs.Common.{List, ℕ, ◌<◌, ◌^◌, Some, subst}
use Rattle.lsm_manifest.specs.Spelling.{IsFileFrom}
use Rattle.lsm_store.specs.World.{LeavesOnly}
use Rattle.lsm_manifest.specs.Persist.{Persists, MayHaveLeft, IsOldOrNew}
use Rattle.lsm_manifest.specs.Told.{Told, TellsPersist}
use Rattle.lsm_manifest.specs.Versions.{named_levels}
use Rattle.lsm_commit.proofs.Removals.{AreApart}
use Rattle.lsm_commit.proofs.Committed.{committed}
use Rattle.lsm_commit.proofs.commit.commit_version.Goals as goal

pub returns-clause-stored : goal.returns-clause-stored
returns-clause-stored g c tells latest written stored other on_disk =
    let w = g.S.Store.world in
    let old = w c.args.store.now in
    let new = w c.persist_encoded.new.store in
    let v = c.args.version.now in
    let r = c.persist_encoded.result in
    let n = c.names_are_apart.ensures in
    let apart : AreApart = record { versions = n.versions; table_no_version = n.table_no_version; version_not_current = n.version_not_current; no_older = n.no_older; version_kind = n.version_kind } in
    let p = c.persist_encoded.ensures in
    let reads = subst (λ (b : List ℕ). IsFileFrom (Some v.log_from) (named_levels v.levels) b) c.requires.spelling c.requires.reads in
    let persists = subst (λ (i : ℕ). Told TellsPersist (Persists i c.args.file.now old new) r) c.id.ensures (p.persists tells) in
    let left = subst (λ (i : ℕ). Told TellsPersist (MayHaveLeft i c.args.file.now old new) r) c.id.ensures (p.left tells) in
    committed apart n.table_not_current n.current_kind old latest v written (subst (λ i. i < 2 ^ 64) c.id.ensures c.id.type_inv) c.facts.ensures.is.runs reads stored other on_disk new r
    (subst (λ (b : List ℕ). Told TellsPersist (Persists v.id b old new) r) c.requires.spelling persists) (subst (λ (b : List ℕ). Told TellsPersist (MayHaveLeft v.id b old new) r) c.requires.spelling left)

pub returns-clause-passes : goal.returns-clause-passes
returns-clause-passes g c tells =
    let w = g.S.Store.world in
    let old = w c.args.store.now in
    let new = w c.persist_encoded.new.store in
    let p = c.persist_encoded.ensures in
    let r = c.persist_encoded.result in
    let persists = subst (λ (i : ℕ). Told TellsPersist (Persists i c.args.file.now old new) r) c.id.ensures (p.persists tells) in
    let leaves = subst (λ (i : ℕ). LeavesOnly old new (IsOldOrNew i c.args.file.now old)) c.id.ensures (p.any_moment tells) in
    passes_persisted c.names_are_apart.ensures.version_kind c.args.version.now.id c.args.file.now old new r (subst (λ i. i < 2 ^ 64) c.id.ensures c.id.type_inv) persists leaves
