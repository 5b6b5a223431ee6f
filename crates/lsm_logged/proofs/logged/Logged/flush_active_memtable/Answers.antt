use Rattle.std.proofs.Common.{◌≡◌, ℕ, true, List, None, IfSome, Ok, Err, ⊎_elim, inl, inr, refl, sym, ap, subst, rules}
use Rattle.lsm_commit.specs.Foreign.{AtRest}
use Rattle.lsm_state.specs.Cleaning.{none_drawn}
use Rattle.lsm_state.specs.Commits.{UpholdsFiles}
use Rattle.lsm_state.proofs.Upholding.{upheld_still}
use Rattle.lsm_state.proofs.Files.{rotated_files}
use Rattle.lsm_logged.specs.Keeping.{SeenLogged, tree_of}
use Rattle.lsm_logged.specs.Removing.{log_from_of, AreGone, KeepsKnown}
use Rattle.lsm_logged.specs.Acting.{ActsBehind}
use Rattle.lsm_logged.proofs.Known.{known_still, known_behind}
use Rattle.lsm_logged.proofs.Removals.{behind_rotated, upheld_rotated}
use Rattle.lsm_logged.proofs.RotateActs.{refused_rotation, flushed_behind}
use Rattle.lsm_logged.proofs.logged.Logged.flush_active_memtable.Goals as goal

pub returns-in-Err-clause-upholds : goal.returns-in-Err-clause-upholds
returns-in-Err-clause-upholds g c tells =
    let w = g.S.Store.world in
    let old = c.args.self.now in
    let rest : AtRest (w old.store) = subst (λ (t : SeenLogged g.row.S.Denot). AtRest (w t.store)) c.self.view_is (subst (λ (s : g.row.S.Denot). AtRest (w s)) c.store.ensures (c.crashes_leave_versions.ensures tells)) in
    let still = (upheld_still (w old.store) old.core old.core refl refl rest).files in
    subst (λ (t : SeenLogged g.row.S.Denot). UpholdsFiles (w old.store) (w t.store) old.core t.core) (sym c.in-Err.ensures.err) still

pub returns-in-Ok-flush-clause-behind : goal.returns-in-Ok-flush-clause-behind
returns-in-Ok-flush-clause-behind g c tells =
    behind_rotated g.S.Store.world c.args.self.now c.rotate_memtable.new.self c.flush.new.self c.in-Ok.sealed c.in-Ok.ensures.ok c.in-Ok.ensures.store (c.flush.ensures.behind tells)

pub returns-in-Ok-flush-clause-upholds : goal.returns-in-Ok-flush-clause-upholds
returns-in-Ok-flush-clause-upholds g c tells =
    upheld_rotated g.S.Store.world c.args.self.now c.rotate_memtable.new.self c.flush.new.self c.in-Ok.sealed c.in-Ok.ensures.ok c.in-Ok.ensures.store (c.flush.ensures.upholds tells)

pub returns-in-Err-clause-flushes : goal.returns-in-Err-clause-flushes
returns-in-Err-clause-flushes g c =
    let e = c.in-Err.ensures in
    let only = ⊎_elim (λ h. inr h) (λ h. inl h) e.only in
    record {
      ok = tt;
      err = inl (record { none = refl; unchanged = ap (λ (t : SeenLogged g.row.S.Denot). t.core) e.err; only = only; out_of_numbers = λ h. e.out_of_numbers (ap Err h) }, e.err);
    }

pub returns-in-Err-flush-clause-flushes : goal.returns-in-Err-flush-clause-flushes
returns-in-Err-flush-clause-flushes g c = record {
  ok = tt;
  err = inr (c.rotate_memtable.new.self, record { rotates = c.in-Ok.ensures.ok; store = c.in-Ok.ensures.store; numbers = c.in-Ok.ensures.log.0; doubt = c.in-Ok.ensures.log.1 }, c.in-Err-flush.ensures.flushes);
}

pub returns-in-Err-flush-clause-behind : goal.returns-in-Err-flush-clause-behind
returns-in-Err-flush-clause-behind g c tells =
    behind_rotated g.S.Store.world c.args.self.now c.rotate_memtable.new.self c.flush.new.self c.in-Ok.sealed c.in-Ok.ensures.ok c.in-Ok.ensures.store (c.flush.ensures.behind tells)

pub returns-in-Err-flush-clause-upholds : goal.returns-in-Err-flush-clause-upholds
returns-in-Err-flush-clause-upholds g c tells =
    upheld_rotated g.S.Store.world c.args.self.now c.rotate_memtable.new.self c.flush.new.self c.in-Ok.sealed c.in-Ok.ensures.ok c.in-Ok.ensures.store (c.flush.ensures.upholds tells)

pub returns-in-Err-clause-acts : goal.returns-in-Err-clause-acts
returns-in-Err-clause-acts g c tells opened start journal notes t is keeps next holds =
    let w = g.S.Store.world in
    let old = c.args.self.now in
    let rest : AtRest (w old.store) = subst (λ (t : SeenLogged g.row.S.Denot). AtRest (w t.store)) c.self.view_is (subst (λ (s : g.row.S.Denot). AtRest (w s)) c.store.ensures (c.crashes_leave_versions.ensures tells)) in
    let e = c.in-Err.error in
    let none = refused_rotation c.args.watermark e (w old.store) old rest c.in-Err.ensures.only opened journal notes t is keeps in
    record { ok = tt; err = subst (λ (n : SeenLogged g.row.S.Denot). ActsBehind c.args.watermark None (Err e) (w old.store) (w n.store) old n opened journal notes t) (sym c.in-Err.ensures.err) none }

pub returns-in-Ok-flush-clause-acts : goal.returns-in-Ok-flush-clause-acts
returns-in-Ok-flush-clause-acts g c tells opened start journal notes t is keeps next holds =
    let rest = subst (λ (t : SeenLogged g.row.S.Denot). AtRest (g.S.Store.world t.store)) c.self.view_is (subst (λ (s : g.row.S.Denot). AtRest (g.S.Store.world s)) c.store.ensures (c.crashes_leave_versions.ensures tells)) in
    let acts =
    flushed_behind g.S.Store.world c.self.inside.tree c.self.inside.numbers.items c.self.inside.doubted c.args.self.now c.rotate_memtable.new.self c.flush.new.self c.self.view_is rest c.flushes_are_deeds.ensures c.facts.ensures c.in-Ok.ensures.store c.in-Ok.ensures.log.1
    c.args.watermark c.in-Ok.sealed (Ok c.in-Ok-flush.flushed) c.in-Ok.ensures.ok (c.in-Ok-flush.ensures.acts tells) opened start journal notes t is keeps next holds in
    record { ok = acts; err = tt }

pub returns-in-Err-flush-clause-acts : goal.returns-in-Err-flush-clause-acts
returns-in-Err-flush-clause-acts g c tells opened start journal notes t is keeps next holds =
    let rest = subst (λ (t : SeenLogged g.row.S.Denot). AtRest (g.S.Store.world t.store)) c.self.view_is (subst (λ (s : g.row.S.Denot). AtRest (g.S.Store.world s)) c.store.ensures (c.crashes_leave_versions.ensures tells)) in
    let acts =
    flushed_behind g.S.Store.world c.self.inside.tree c.self.inside.numbers.items c.self.inside.doubted c.args.self.now c.rotate_memtable.new.self c.flush.new.self c.self.view_is rest c.flushes_are_deeds.ensures c.facts.ensures c.in-Ok.ensures.store c.in-Ok.ensures.log.1
    c.args.watermark c.in-Ok.sealed (Err c.in-Err-flush.error) c.in-Ok.ensures.ok (c.in-Err-flush.ensures.acts tells) opened start journal notes t is keeps next holds in
    record { ok = tt; err = acts }

pub returns-in-Err-clause-known : goal.returns-in-Err-clause-known
returns-in-Err-clause-known g c tells =
    let w = g.S.Store.world in
    let old = c.args.self.now in
    subst (λ (t : SeenLogged g.row.S.Denot). KeepsKnown (w old.store) (w t.store) old.numbers t.numbers) (sym c.in-Err.ensures.err) (known_still (w old.store) old.numbers)

pub returns-in-Ok-flush-clause-known : goal.returns-in-Ok-flush-clause-known
returns-in-Ok-flush-clause-known g c tells =
    known_behind g.S.Store.world c.args.self.now c.rotate_memtable.new.self c.flush.new.self c.in-Ok.ensures.store c.in-Ok.ensures.log.0 (c.flush.ensures.known tells)

pub returns-in-Err-flush-clause-known : goal.returns-in-Err-flush-clause-known
returns-in-Err-flush-clause-known g c tells =
    known_behind g.S.Store.world c.args.self.now c.rotate_memtable.new.self c.flush.new.self c.in-Ok.ensures.store c.in-Ok.ensures.log.0 (c.flush.ensures.known tells)

pub returns-in-Ok-flush-clause-passed_are_gone : goal.returns-in-Ok-flush-clause-passed_are_gone
returns-in-Ok-flush-clause-passed_are_gone g c tells =
    let w = g.S.Store.world in
    let new = c.flush.new.self in
    subst (λ (l : List ℕ). IfSome c.in-Ok-flush.flushed (λ p. p.1.cleaned ≡ true → AreGone (w new.store) (log_from_of new.core) l)) c.in-Ok.ensures.log.0 (c.in-Ok-flush.ensures.passed_are_gone tells)

pub returns-in-Err-clause-files : goal.returns-in-Err-clause-files
returns-in-Err-clause-files g c =
    let same = ap (λ (t : SeenLogged g.row.S.Denot). t.core.next_table) c.in-Err.ensures.err in
    record {
      causes = search rules;
      gone = search rules;
      rests = tt;
      refused = λ tells small known. none_drawn _ _ (g.S.Store.world c.args.self.now.store) (g.S.Store.world c.rotate_memtable.new.self.store) same;
      no_call = search rules;
      flush_open = search rules;
    }

pub returns-in-Err-flush-clause-files : goal.returns-in-Err-flush-clause-files
returns-in-Err-flush-clause-files g c = rotated_files g.S.Store.tells g.S.Store.world c.in-Ok.sealed (Err c.in-Err-flush.error) (tree_of c.args.self.now) (tree_of c.rotate_memtable.new.self) (tree_of c.flush.new.self) c.in-Ok.ensures.ok c.in-Ok.ensures.store c.in-Err-flush.ensures.files

pub returns-in-Ok-flush-clause-files : goal.returns-in-Ok-flush-clause-files
returns-in-Ok-flush-clause-files g c = rotated_files g.S.Store.tells g.S.Store.world c.in-Ok.sealed (Ok c.in-Ok-flush.flushed) (tree_of c.args.self.now) (tree_of c.rotate_memtable.new.self) (tree_of c.flush.new.self) c.in-Ok.ensures.ok c.in-Ok.ensures.store c.in-Ok-flush.ensures.files
