use Rattle.std.proofs.Common.{◌≡◌, ◌∙◌, List, refl, sym, ap, subst}
use Rattle.std.specs.Prelude.{MatchOption}
use Rattle.std.proofs.lemmas.Result.{err_from_is_err_and}
use Rattle.lsm_manifest.specs.declared.opening.Opened.{Opened}
use Rattle.lsm_manifest.specs.Recovery.{CountsStore}
use Rattle.lsm_manifest.specs.OpeningLaws.{told_unrecoverable}
use Rattle.lsm_model.specs.Journal.{Event}
use Rattle.lsm_model.specs.Views.{held}
use Rattle.lsm_versions.specs.Levels.{SeenVersion, placed_of}
use Rattle.lsm_versions.specs.declared.config.Config.{Config}
use Rattle.lsm_state.specs.Core.{Core, opened_core}
use Rattle.lsm_recorded.specs.Marks.{IsMarked}
use Rattle.lsm_recorded.specs.MarkedTables.{TablesAreInOrder, IsOpenedWith}
use Rattle.lsm_recorded.specs.Recorded.{IsRecorded}
use Rattle.lsm_recorded.proofs.OpenLemmas.{opened_recorded}
use Rattle.lsm_recorded.proofs.Openings.{refused_so, memory_so, others_so}
use Rattle.lsm_recorded.proofs.recorded.Recorded.open_found.Goals as goal

pub returns-in-Ok-None-clause-opens : goal.returns-in-Ok-None-clause-opens
returns-in-Ok-None-clause-opens g c tells first looks standing leaves =
    let found = c.args.found in
    let others : TablesAreInOrder found.files.opened.version.levels → ⊥ = λ o.
    subst (λ told. MatchOption told (TablesAreInOrder c.version.result.now.levels → ⊥) (IsOpenedWith c.version.result.now)) c.in-Ok-None.field-0-is c.in-Ok-None.ensures
    (subst (λ v. TablesAreInOrder v.levels) (sym c.version.ensures) o) in
    rw c.into_store.ensures (others_so g.S.Store.world (c.openings_leave_what_was_read.ensures.meanwhile tells) first found.store leaves found.files looks standing others)

pub returns-in-Ok-None-clause-counts : goal.returns-in-Ok-None-clause-counts
returns-in-Ok-None-clause-counts g c =
    let w = g.S.Store.world in
    told_unrecoverable (CountsStore {T = Opened} (w c.args.found.store) (w c.into_store.result)) (rw c.into_store.ensures refl)

pub returns-in-Err-clause-opens : goal.returns-in-Err-clause-opens
returns-in-Err-clause-opens g c tells first looks standing leaves =
    let found = c.args.found in
    rw c.into_store-in-Err.ensures (memory_so g.S.Store.world (c.openings_leave_what_was_read.ensures.meanwhile tells) first found.store leaves found.files looks)

pub returns-in_err-core-clause-opens : goal.returns-in_err-core-clause-opens
returns-in_err-core-clause-opens g c tells first looks standing leaves =
    let p = err_from_is_err_and c.from_residual.result c.from_residual.ensures.1 in
    rw (p.1, p.2) (refused_so g.S.Store.world (c.openings_leave_what_was_read.ensures.meanwhile tells) first c.in_err-core.field-0.0.1 (c.in_err-core.ensures.leaves tells first looks) c.in_err-core.field-0.0.0 (c.in_err-core.ensures.opens tells first looks))

pub invariant_of-result : goal.invariant_of-result
invariant_of-result g c =
    let files = c.args.found.files in
    let version = files.opened.version in
    let next = files.opened.next_table_id in
    let m = c.in-Ok-Some.marks.0 in
    let core = c.in_ok-core.core.core in
    let told = subst (λ told. MatchOption told (TablesAreInOrder c.version.result.now.levels → ⊥) (IsOpenedWith c.version.result.now)) c.in-Ok-Some.field-0-is c.in-Ok-Some.ensures in
    let same : c.in-Ok-Some.marks.1 ≡ version = told.1 ∙ c.version.ensures in
    let marked = subst (λ (v : SeenVersion). IsMarked m.marks m.least (held (placed_of v.levels))) c.version.ensures told.0 in
    let is = c.in_ok-core.ensures.core ∙ ap (λ (k : Config). opened_core k version next) c.raised.ensures in
    subst (λ (v : SeenVersion). IsRecorded (placed_of v.levels) m.least m.marks 0 core c.new.result.items) (sym same)
    (subst (λ (js : List Event). IsRecorded (placed_of version.levels) m.least m.marks 0 core js) (sym c.new.ensures.items) (opened_recorded c.reads_are_sound.ensures c.maps_are_read.ensures version next m.least c.args.config m.marks core is c.in_ok-core.ensures.starts marked))

pub returns-clause-opens : goal.returns-clause-opens
returns-clause-opens g c tells first looks standing leaves =
    let m = c.in-Ok-Some.marks.0 in
    let core = c.in_ok-core.core in
    let opens = c.in_ok-core.ensures.opens tells first looks in
    let left = c.in_ok-core.ensures.leaves tells first looks in
    let marked = subst (λ (v : SeenVersion). IsMarked m.marks m.least (held (placed_of v.levels))) c.version.ensures (subst (λ told. MatchOption told (TablesAreInOrder c.version.result.now.levels → ⊥) (IsOpenedWith c.version.result.now)) c.in-Ok-Some.field-0-is c.in-Ok-Some.ensures).0 in
    let same = ap (λ (k : Core). k.history.latest.version) c.in_ok-core.ensures.core in
    record {
      version = opens.version;
      opens = λ none there. (opens.opens none there, subst (λ (v : SeenVersion). TablesAreInOrder v.levels) (sym same) marked.in_order);
      from = opens.from;
      takes = λ id ls ts stands small ordered. opens.takes id ls ts stands small;
      unordered = λ id ls ts stands small others. others (subst TablesAreInOrder (standing id ls ts stands small).1 marked.in_order);
      new = opens.fresh;
      removes = opens.removes;
      any_moment = left.any_moment;
      stands = left.stands;
      new_moment = left.new_moment;
      meanwhile = λ ts ready finds. c.openings_leave_what_was_read.ensures.meanwhile tells first core.store ts ready finds left;
      stored = λ ready. c.in_ok-core.ensures.stored tells first looks ready;
      keeps = tt;
    }
