use Rattle.lsm_commit.specs.Foreign.{Passes}
use Rattle.std.proofs.Common.{◌≡◌, ◌<◌, ◌∷◌, [], ℕ, Bool, true, false, List, ⊎_elim, None, Some, is_some, ap, sym, subst, ◌∙◌, refl, Ok, Err, rules}
use Rattle.lsm_below.specs.declared.error.Error.TheVariants.{OutOfMemory, Store, CommitUnknown}
use Rattle.lsm_versions.specs.Levels.{SeenVersion, all_of}
use Rattle.lsm_manifest.specs.Spelling.{IsFileFrom}
use Rattle.lsm_manifest.specs.Versions.{named_levels, file_of}
use Rattle.lsm_commit.specs.Stored.{AreOnDisk}
use Rattle.lsm_commit.specs.Commits.{CommitsStored}
use Rattle.lsm_parts.specs.History.{SeenHistory, versions_of}
use Rattle.lsm_parts.specs.declared.version.super_version.SuperVersion.{SuperVersion}
use Rattle.lsm_state.specs.Core.{Core, versions_left}
use Rattle.lsm_state.specs.Commits.{fronted, next_id, fresh_in, UpholdsFiles}
use Rattle.lsm_state.specs.Kept.{KeepsIds, KeepsTables}
use Rattle.lsm_state.proofs.Upholding.{upheld_at, upheld_still, committed_upholds, doubted_upholds, refused_upholds}
use Rattle.lsm_state.proofs.tree.TreeState.commit.Goals as goal

-- the version of the first of some super versions
abbrev first_version_of : SeenVersion → List SuperVersion → SeenVersion
first_version_of v [] = v
first_version_of v (sv ∷ older) = sv.version

-- the memtables and the next id, apart
fresh_ids : (fresh : Bool) (c : Core) (h : SeenHistory) → KeepsIds (fresh_in fresh c).memtables h (fresh_in fresh c).next_memtable → KeepsIds (fronted fresh c.next_memtable c.memtables) h (next_id fresh c.next_memtable)
fresh_ids false c h ids = ids
fresh_ids true c h ids = ids

pub returns-then-number-ge-LIMIT-clause-upholds : goal.returns-then-number-ge-LIMIT-clause-upholds
returns-then-number-ge-LIMIT-clause-upholds g c tells disk =
    (upheld_at g.S.Store.world c.args.self.now c.self.inside.store (ap (λ t. t.store) c.self.view_is) (c.crashes_leave_versions.ensures tells)).files

pub returns-in_err-file-clause-upholds : goal.returns-in_err-file-clause-upholds
returns-in_err-file-clause-upholds g c tells disk =
    (upheld_at g.S.Store.world c.args.self.now c.self.inside.store (ap (λ t. t.store) c.self.view_is) (c.crashes_leave_versions.ensures tells)).files

pub returns-in_err-append_version-clause-upholds : goal.returns-in_err-append_version-clause-upholds
returns-in_err-append_version-clause-upholds g c tells disk =
    let w = g.S.Store.world in
    let i = c.self.inside in
    let old : Core = record { config = i.config; memtables = i.memtables; history = i.history; next_memtable = i.next_memtable; next_table = i.next_table; next_job = i.next_job; moment = i.moment; seqno = i.seqno; visible_seqno = i.visible_seqno; flush = i.flush; lost = i.lost; merges = i.merges } in
    let new : Core = record old { history = c.append_version.new.self } in
    subst (λ t. UpholdsFiles (w t.store) (w i.store) t.core new) c.self.view_is
    (upheld_still (w i.store) old new (ap (λ h. versions_left (record old { history = h })) c.in_err-append_version.ensures.err) refl (c.crashes_leave_versions.ensures tells)).files

pub commit_version-requires-clause-spelling : goal.commit_version-requires-clause-spelling
commit_version-requires-clause-spelling g c =
    let seen = ap (λ sv. sv.version) c.latest_version.ensures ∙ ap (λ h. h.latest.version) c.in_ok-append_version.ensures.ok in
    c.deref.ensures.value ∙ c.in_ok-file.ensures.spelling ∙ ap file_of (sym seen)

pub commit_version-requires-clause-reads : goal.commit_version-requires-clause-reads
commit_version-requires-clause-reads g c =
    let v = c.args.next.version in
    let seen = ap (λ sv. sv.version) c.latest_version.ensures ∙ ap (λ h. h.latest.version) c.in_ok-append_version.ensures.ok in
    let reads = subst (λ (b : List ℕ). IsFileFrom (Some v.log_from) (named_levels v.levels) b) (sym c.deref.ensures.value) c.in_ok-file.ensures.tells in
    subst (λ (u : SeenVersion). IsFileFrom (Some u.log_from) (named_levels u.levels) c.deref.result.now) (sym seen) reads

pub invariant_of-self-in-Ok : goal.invariant_of-self-in-Ok
invariant_of-self-in-Ok g c =
    let fresh = is_some c.args.room in
    let next = c.args.next in
    let ids = subst (λ t. KeepsIds (fronted fresh t.core.next_memtable t.core.memtables) (record { latest = next; older = versions_of t.core.history }) (next_id fresh t.core.next_memtable)) (sym c.self.view_is)
    (fresh_ids fresh c.args.self.now.core (record { latest = next; older = versions_of c.args.self.now.core.history }) c.requires.ids) in
    let tables = subst (λ t. KeepsTables t.core.flush (record { latest = next; older = versions_of t.core.history }) t.core.next_table) (sym c.self.view_is) c.requires.tables in
    rw (c.put_fresh.ensures.memtables, c.put_fresh.ensures.number, c.in_ok-append_version.ensures.ok) (ids, tables)

pub returns-in-Ok-clause-upholds : goal.returns-in-Ok-clause-upholds
returns-in-Ok-clause-upholds g c tells disk =
    let w = g.S.Store.world in
    let i = c.self.inside in
    let v = c.args.next.version in
    let old : Core = record { config = i.config; memtables = i.memtables; history = i.history; next_memtable = i.next_memtable; next_table = i.next_table; next_job = i.next_job; moment = i.moment; seqno = i.seqno; visible_seqno = i.visible_seqno; flush = i.flush; lost = i.lost; merges = i.merges } in
    let new : Core = record old { history = c.append_version.new.self; seqno = c.set.new.self; visible_seqno = c.fetch_max.new.self } in
    let made = c.in_ok-append_version.ensures.ok in
    let seen = ap (λ sv. sv.version) c.latest_version.ensures ∙ ap (λ h. h.latest.version) made in
    let commits = subst (λ u. CommitsStored u (w i.store) (w c.commit_version.new.store) (Ok c.in-Ok.field-0)) seen (c.in-Ok.ensures.stored tells) in
    let certain = subst (λ t. t.core.lost ≡ None) (sym c.self.view_is) c.requires.certain in
    let later = subst (λ t. t.core.history.latest.version.id < v.id) (sym c.self.view_is) c.requires.later in
    let there = subst (λ t. AreOnDisk (w t.store) (all_of v.levels)) (sym c.self.view_is) disk in
    subst (λ t. UpholdsFiles (w t.store) (w c.commit_version.new.store) t.core new) c.self.view_is
    (committed_upholds (w i.store) (w c.commit_version.new.store) old new v certain later there refl c.in-Ok.field-0 commits (ap (λ h. h.latest.version) made) certain)

pub returns-clause-upholds : goal.returns-clause-upholds
returns-clause-upholds g c tells disk =
    let w = g.S.Store.world in
    let i = c.self.inside in
    let v = c.args.next.version in
    let e = c.in-Err.error in
    let old : Core = record { config = i.config; memtables = i.memtables; history = i.history; next_memtable = i.next_memtable; next_table = i.next_table; next_job = i.next_job; moment = i.moment; seqno = i.seqno; visible_seqno = i.visible_seqno; flush = i.flush; lost = i.lost; merges = i.merges } in
    let new : Core = record old { history = c.undo_commit.new.history; seqno = c.set.new.self; lost = c.undo_commit.new.lost } in
    let made = c.in_ok-append_version.ensures.ok in
    let seen = ap (λ sv. sv.version) c.latest_version.ensures ∙ ap (λ h. h.latest.version) made in
    let commits = subst (λ u. CommitsStored u (w i.store) (w c.commit_version.new.store) (Err e)) seen (c.in-Err.ensures.stored tells) in
    let certain = subst (λ t. t.core.lost ≡ None) (sym c.self.view_is) c.requires.certain in
    let later = subst (λ t. t.core.history.latest.version.id < v.id) (sym c.self.view_is) c.requires.later in
    let there = subst (λ t. AreOnDisk (w t.store) (all_of v.levels)) (sym c.self.view_is) disk in
    let still = ap (first_version_of v) (c.undo_commit.ensures.left ∙ ap (λ h. h.older) made) in
    let refused = refused_upholds (w i.store) (w c.commit_version.new.store) old new v certain later there refl e commits in
    subst (λ t. UpholdsFiles (w t.store) (w c.commit_version.new.store) t.core new) c.self.view_is
    (⊎_elim (⊎_elim (λ (m : e ≡ OutOfMemory). let no : e ≡ CommitUnknown → ⊥ = λ u. cc in refused no still (c.undo_commit.ensures.refused no)) (λ (m : e ≡ Store). let no : e ≡ CommitUnknown → ⊥ = λ u. cc in refused no still (c.undo_commit.ensures.refused no)))
    (λ (u : e ≡ CommitUnknown). doubted_upholds (w i.store) (w c.commit_version.new.store) old new v certain later there refl e commits u still (c.undo_commit.ensures.unknown u ∙ ap (λ h. Some (h.latest.version)) made)) c.in-Err.ensures.only)

pub returns-then-number-ge-LIMIT-clause-passes : goal.returns-then-number-ge-LIMIT-clause-passes
returns-then-number-ge-LIMIT-clause-passes g c tells =
    let w = g.S.Store.world in
    subst (λ t. Passes (w t.store) (w t.store)) c.self.view_is (c.crashes_leave_versions.ensures tells).passes

pub returns-in_err-file-clause-passes : goal.returns-in_err-file-clause-passes
returns-in_err-file-clause-passes g c tells =
    let w = g.S.Store.world in
    subst (λ t. Passes (w t.store) (w t.store)) c.self.view_is (c.crashes_leave_versions.ensures tells).passes

pub returns-in_err-append_version-clause-passes : goal.returns-in_err-append_version-clause-passes
returns-in_err-append_version-clause-passes g c tells =
    let w = g.S.Store.world in
    subst (λ t. Passes (w t.store) (w c.self.inside.store)) c.self.view_is (c.crashes_leave_versions.ensures tells).passes

pub returns-in-Ok-clause-passes : goal.returns-in-Ok-clause-passes
returns-in-Ok-clause-passes g c tells =
    let w = g.S.Store.world in
    subst (λ t. Passes (w t.store) (w c.commit_version.new.store)) c.self.view_is (c.in-Ok.ensures.passes tells)

pub returns-clause-passes : goal.returns-clause-passes
returns-clause-passes g c tells =
    let w = g.S.Store.world in
    subst (λ t. Passes (w t.store) (w c.commit_version.new.store)) c.self.view_is (c.in-Err.ensures.passes tells)

pub returns-clause-commits : goal.returns-clause-commits
returns-clause-commits g c = record {
  ok = tt;
  unknown = search rules;
  store = search rules;
  memory = search rules;
  numbers = search rules;
  only = search rules;
}
