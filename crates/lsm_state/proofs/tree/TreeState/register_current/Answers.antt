use Rattle.std.proofs.Common.{◌≡◌, ℕ, List, map, Err, inl, ap, sym, subst, refl, rules}
use Rattle.lsm_below.specs.declared.error.Error.TheVariants.{CommitUnknown}
use Rattle.lsm_model.specs.Steps.{among}
use Rattle.lsm_tables.specs.Tables.{SeenTable}
use Rattle.lsm_versions.specs.Levels.{all_of}
use Rattle.lsm_commit.specs.Causes.{causes_then}
use Rattle.lsm_commit.specs.Commits.{AreOthers}
use Rattle.lsm_state.specs.Core.{versions_left}
use Rattle.lsm_state.specs.Commits.{Upholds}
use Rattle.lsm_state.specs.Flushes.{Registers, spent}
use Rattle.lsm_state.proofs.Causing.{removes_behind}
use Rattle.lsm_state.proofs.Installing.{upholds_join}
use Rattle.lsm_state.proofs.Registering.{unregistered, refused_lost, refused_written, refused_history, others_than_job}
use Rattle.lsm_state.proofs.WholeFlushes.{upholds_spent}
use Rattle.lsm_state.proofs.tree.TreeState.register_current.Goals as goal

pub register-requires : goal.register-requires
register-requires g c = (λ h. c.requires.current, λ h. refl)

pub returns-in_default-clause-registers : goal.returns-in_default-clause-registers
returns-in_default-clause-registers g c =
    let job = c.args.job in
    let is = subst (λ j. c.abandon_flush.new.self.core ≡ spent j.number c.args.self.now.core) c.into_job.ensures c.abandon_flush.ensures.core in
    unregistered job c.args.self.now.core c.requires.current c.abandon_flush.new.self.core c.requires.certain is

pub returns-in_default-clause-upholds : goal.returns-in_default-clause-upholds
returns-in_default-clause-upholds g c tells =
    let w = g.S.Store.world in
    let old = c.args.self.now in
    let new = c.abandon_flush.new.self in
    let left = upholds_spent (w old.store) (w old.store) old.core old.core c.into_job.result.number (c.is_upheld.ensures tells) in
    subst (λ s. Upholds (w old.store) (w s) old.core new.core) (sym c.abandon_flush.ensures.store) (subst (Upholds (w old.store) (w old.store) old.core) (sym c.abandon_flush.ensures.core) left)

pub give_up-requires : goal.give_up-requires
give_up-requires g c =
    let old = c.args.self.now.core in
    let mid = c.register.new.self.core in
    let job = c.args.job in
    let ids = c.in-Ok.ids.keys in
    let known : c.in-Err.error ≡ CommitUnknown → ⊥ = search rules in
    let registers = c.in-Err.ensures.registers in
    let others = others_than_job job old c.requires.current ids (subst (λ (ts : List SeenTable). (i : ℕ) → among ids i ≡ among (map (λ t. t.id) ts) i) c.tables.ensures c.in-Ok.ensures) c.facts.ensures.tables in
    record {
      certain = refused_lost job old c.requires.current c.requires.certain c.in-Err.error mid registers known;
      spares = subst (AreOthers ids) (sym (refused_written job old c.requires.current c.requires.certain c.in-Err.error mid registers known)) tt;
      others = subst (λ h. AreOthers ids (all_of h.latest.version.levels)) (sym (refused_history job old c.requires.current c.requires.certain c.in-Err.error mid registers known)) others;
    }

pub returns : goal.returns
returns g c =
    let w = g.S.Store.world in
    let old = c.args.self.now in
    let mid = c.register.new.self in
    let new = c.give_up.new.self in
    let did = c.in-Err.ensures in
    let behind = c.give_up.ensures in
    record {
      registers = subst (Registers c.args.job (Err c.in-Err.error) old.core) (sym behind.core) did.registers;
      upholds = λ tells. upholds_join (w old.store) (w mid.store) (w new.store) old.core mid.core new.core (ap versions_left behind.core) (did.upholds tells) (behind.upholds tells);
      causes = causes_then _ ⊥ _ (w old.store) (w mid.store) (w new.store) did.causes behind.causes (λ blamed. inl blamed);
      gone = λ tells. tt;
      rests = tt;
      refused = λ tells full. removes_behind c.in-Ok.ids.keys _ (w old.store) (w mid.store) (w new.store) did.causes.rises (subst (λ (ts : List SeenTable). (i : ℕ) → among c.in-Ok.ids.keys i ≡ among (map (λ t. t.id) ts) i) c.tables.ensures c.in-Ok.ensures) (behind.gone tells);
      deeds = tt;
      lost = λ h. search rules;
    }
