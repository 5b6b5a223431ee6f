use Rattle.std.proofs.Common.{◌≡◌, ◌∙◌, ⊎_elim, ◌-◌, ◌^◌, Err, refl, sym, ap, subst, nat_le}
use Rattle.std.specs.List.{list_any}
use Rattle.std.proofs.lemmas.Result.{err_from_is_err_and}
use Rattle.lsm_store.specs.World.{Image, Same}
use Rattle.lsm_store.specs.Moments.{same_then}
use Rattle.lsm_versions.specs.Levels.{SeenVersion}
use Rattle.lsm_manifest.specs.declared.found.Found.{Found}
use Rattle.lsm_manifest.specs.Told.{told_counts}
use Rattle.lsm_manifest.specs.Looking.{Looks}
use Rattle.lsm_manifest.specs.Opening.{next_id}
use Rattle.lsm_manifest.specs.Spelling.{ids_of}
use Rattle.lsm_manifest.proofs.OpensLemmas.{leaves_same}
use Rattle.lsm_log.specs.Logs.{IsLogAt, IsBadLog}
use Rattle.lsm_log.proofs.Loaded.{gives_same}
use Rattle.lsm_state.specs.Unlogged.{IsReadFrom, Files, Memory, Faulty, BadName, Counted}
use Rattle.lsm_state.proofs.Blaming.{bad_name, one_failed}
use Rattle.lsm_state.proofs.Reached.{looked, looks_on, reached, unreached}
use Rattle.lsm_state.proofs.tree.TreeState.look_unlogged.Given.{Over}
use Rattle.lsm_state.proofs.tree.TreeState.look_unlogged.Goals.{After-reaches}
use Rattle.lsm_state.proofs.tree.TreeState.look_unlogged.Goals as goal

pub returns-in_err-found-clause-refused : goal.returns-in_err-found-clause-refused
returns-in_err-found-clause-refused g c tells =
    let p = err_from_is_err_and c.from_residual.result c.from_residual.ensures.1 in
    rw (p.1, p.2) (Files (c.in_err-found.ensures.same tells) (c.in_err-found.ensures.refused tells))

pub returns-in_err-found-clause-leaves : goal.returns-in_err-found-clause-leaves
returns-in_err-found-clause-leaves g c tells =
    let p = err_from_is_err_and c.from_residual.result c.from_residual.ensures.1 in
    rw (p.1, p.2) (c.in_err-found.ensures.leaves tells)

pub returns-in_err-found-clause-counts : goal.returns-in_err-found-clause-counts
returns-in_err-found-clause-counts g c =
    let p = err_from_is_err_and c.from_residual.result c.from_residual.ensures.1 in
    rw (p.1, p.2) (told_counts _ _ _ c.in_err-found.ensures.counts)

pub returns-in-Err-clause-refused : goal.returns-in-Err-clause-refused
returns-in-Err-clause-refused g c tells =
    let w = g.S.Store.world in
    let store = c.args.store in
    let found = c.in_ok-found.found in
    let mid = c.check_log.new.self.store in
    let looked = c.in_ok-found.ensures.same tells in
    let same = same_then (w store) (w found.store) (w mid) looked (c.in-Err.ensures.same tells) in
    rw (c.into_store.ensures)
    (⊎_elim (λ few. ⊎_elim (λ e. Memory same e) (λ e. Faulty same e (one_failed (w store) (w found.store) (w mid) c.in_ok-found.ensures.counts (c.in-Err.ensures.counts.store (ap Err e)))) few)
    (λ e. BadName same e (bad_name (w store).gives (subst (λ (image : Image). IsBadLog image (2 ^ 64 - 1)) (gives_same (w store) (w found.store) looked) (c.in-Err.ensures.bad tells (ap Err e)))))
    c.in-Err.ensures.only)

pub returns-in-Err-clause-leaves : goal.returns-in-Err-clause-leaves
returns-in-Err-clause-leaves g c tells =
    let w = g.S.Store.world in
    let store = c.args.store in
    let found = c.in_ok-found.found in
    let mid = c.check_log.new.self.store in
    rw (c.into_store.ensures) (leaves_same c.plain_numbers_are_read.ensures (w store) (w mid) (g.met.S.Store.only_now tells store) (same_then (w store) (w found.store) (w mid) (c.in_ok-found.ensures.same tells) (c.in-Err.ensures.same tells)))

pub returns-in-Err-clause-same : goal.returns-in-Err-clause-same
returns-in-Err-clause-same g c tells =
    let w = g.S.Store.world in
    rw (c.into_store.ensures) (same_then (w c.args.store) (w c.in_ok-found.found.store) (w c.check_log.new.self.store) (c.in_ok-found.ensures.same tells) (c.in-Err.ensures.same tells))

-- once the names of the log are listed
module _ (g : Over) (c : After-reaches g) (tells : g.S.Store.tells) where
  same : Same (g.S.Store.world c.args.store) (g.S.Store.world c.check_log.new.self.store)
  same = same_then (g.S.Store.world c.args.store) (g.S.Store.world c.in_ok-found.found.store) (g.S.Store.world c.check_log.new.self.store) (c.in_ok-found.ensures.same tells) (c.in-Ok.ensures.same tells)

  looks : Looks (g.S.Store.world c.args.store) (g.S.Store.world c.check_log.new.self.store) c.check_log.new.self.files
  looks = looks_on (g.S.Store.world c.args.store) (g.S.Store.world c.in_ok-found.found.store) (g.S.Store.world c.check_log.new.self.store) c.in_ok-found.found.files c.check_log.new.self.files (c.in_ok-found.ensures.found tells) (c.in-Ok.ensures.same tells) c.in-Ok.ensures.files

  log : IsLogAt (g.S.Store.world c.args.store).gives (2 ^ 64 - 1) c.in-Ok.log.passed.items c.in-Ok.log.numbers.items
  log = subst (λ (image : Image). IsLogAt image (2 ^ 64 - 1) c.in-Ok.log.passed.items c.in-Ok.log.numbers.items) (gives_same (g.S.Store.world c.args.store) (g.S.Store.world c.in_ok-found.found.store) (c.in_ok-found.ensures.same tells)) (c.in-Ok.ensures.read tells)

  read : IsReadFrom (g.S.Store.world c.args.store).gives c.log_from.result
  read = looked (g.S.Store.world c.args.store) (g.S.Store.world c.check_log.new.self.store) c.check_log.new.self.files c.log_from.result looks (c.log_from.ensures ∙ ap (λ (u : SeenVersion). u.log_from) c.version.ensures)

  told : c.reaches.result ≡ list_any (λ k. nat_le c.log_from.result k) c.in-Ok.log.passed.items
  told = c.reaches.ensures ∙ ap (list_any (λ k. nat_le c.log_from.result k)) c.deref.ensures.value

pub returns-then-reaches-clause-refused : goal.returns-then-reaches-clause-refused
returns-then-reaches-clause-refused g c tells =
    let w = g.S.Store.world in
    let at = (goal.at.returns-then-reaches-clause-refused g c).After-reaches in
    let there = log g at tells in
    rw (c.into_store-then-reaches.ensures) (Counted (same g at tells) refl (reached (w c.args.store).gives c.in-Ok.log.passed.items there.records there.log c.log_from.result (read g at tells) (sym c.if-reaches.true ∙ told g at tells)))

pub returns-then-reaches-clause-leaves : goal.returns-then-reaches-clause-leaves
returns-then-reaches-clause-leaves g c tells =
    let w = g.S.Store.world in
    rw (c.into_store-then-reaches.ensures) (leaves_same c.plain_numbers_are_read.ensures (w c.args.store) (w c.check_log.new.self.store) (g.met.S.Store.only_now tells c.args.store) (same g (goal.at.returns-then-reaches-clause-leaves g c).After-reaches tells))

pub returns-then-reaches-clause-same : goal.returns-then-reaches-clause-same
returns-then-reaches-clause-same g c tells =
    rw (c.into_store-then-reaches.ensures) (same g (goal.at.returns-then-reaches-clause-same g c).After-reaches tells)

pub returns-clause-found : goal.returns-clause-found
returns-clause-found g c tells = looks g (goal.at.returns-clause-found g c).After-reaches tells

pub returns-clause-passed : goal.returns-clause-passed
returns-clause-passed g c tells =
    let at = (goal.at.returns-clause-passed g c).After-reaches in
    let there = log g at tells in
    unreached (g.S.Store.world c.args.store).gives c.in-Ok.log.passed.items there.records there.log c.log_from.result (read g at tells) (sym c.if-reaches.false ∙ told g at tells)

pub returns-clause-leaves : goal.returns-clause-leaves
returns-clause-leaves g c tells =
    let w = g.S.Store.world in
    leaves_same c.plain_numbers_are_read.ensures (w c.args.store) (w c.check_log.new.self.store) (g.met.S.Store.only_now tells c.args.store) (same g (goal.at.returns-clause-leaves g c).After-reaches tells)

pub returns-clause-same : goal.returns-clause-same
returns-clause-same g c tells = same g (goal.at.returns-clause-same g c).After-reaches tells

pub returns-clause-stands : goal.returns-clause-stands
returns-clause-stands g c tells id ls ts stands small =
    subst (λ (f : Found). (f.opened.version.id ≡ id) × (f.opened.version.levels ≡ ts) × (f.opened.next_table_id ≡ next_id (ids_of ls))) (sym c.in-Ok.ensures.files) (c.in_ok-found.ensures.stands tells id ls ts stands small)
