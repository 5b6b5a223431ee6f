-- A job that is registered is spent first, and then installed.
use Rattle.std.proofs.Common.{◌≡◌, ◌⊎◌, inl, inr, ⊎_elim, ℕ, ◌<◌, false, cond, List, [], map, ◌++◌, Option, Some, None, IsSome, Err, refl, ap, ◌∙◌, subst, eq-eqb}
use Rattle.std.specs.Option.{is_some}
use Rattle.std.specs.List.{AllByRecursion}
use Rattle.lsm_below.specs.Each.{each_left, each_weaker}
use Rattle.lsm_below.specs.declared.error.Error.{Error}
use Rattle.lsm_below.specs.declared.error.Error.TheVariants.{OutOfMemory, CommitUnknown}
use Rattle.lsm_below.specs.Runs.{IsRun}
use Rattle.lsm_store.specs.World.{World}
use Rattle.lsm_model.specs.Steps.{among}
use Rattle.lsm_commit.specs.Commits.{AreOthers}
use Rattle.lsm_versions.specs.Levels.{range, all_of, HasOwnIds}
use Rattle.lsm_commit.specs.Stored.{AreOnDisk}
use Rattle.lsm_commit.specs.Foreign.{AtRest}
use Rattle.lsm_flush.specs.Jobs.{SeenOpen, SeenWritten}
use Rattle.lsm_state.specs.Kept.{KeepsTables}
use Rattle.lsm_state.specs.Core.{Core, versions_left, written_by, written_of}
use Rattle.lsm_state.specs.Commits.{UpholdsFiles, Upholds, counted}
use Rattle.lsm_state.specs.Flushes.{IsCurrent, MayInstall, Registers, spent, spent_in}
use Rattle.lsm_state.proofs.Upholding.{upheld_still}
use Rattle.lsm_state.proofs.Writing.{stored_spent}
use Rattle.lsm_state.proofs.Replacing.{parts_apart, apart_ids, IsApart}

pub none_of : {A : Type 0} (o : Option A) → is_some o ≡ false → o ≡ None
none_of None h = refl
none_of (Some x) h = absurd (cc h)

pub spent_upholds : (w : World) (old : Core) (n : ℕ) → AtRest w → Upholds w w old (spent n old)
spent_upholds w old n stays = record {
  files = λ stored. (stored_spent w (versions_left old) n old.flush stored, ((upheld_still w old old refl refl stays).files stored).1);
  passes = stays.passes;
}

module _ (job : SeenWritten) (old : Core) (current : IsCurrent job old) where
  abbrev number : ℕ
  number = job.job.number

  abbrev open_one : Option SeenOpen
  open_one = Some (record { number = number; ids = job.job.ids; written = job.tables })

  closed : spent_in number old.flush ≡ None
  closed = ap (spent_in number) current.current ∙ ap (λ b. cond b None open_one) (eq-eqb number number refl)

  written_is : written_of old ≡ job.tables
  written_is = ap written_by current.current

  pub may_install : old.lost ≡ None → IsRun range job.tables → KeepsTables old.flush old.history old.next_table → MayInstall job (spent number old)
  may_install certain run k = record {
    certain = certain;
    closed = closed;
    run = run;
    own_ids = subst (λ ts. HasOwnIds (ts ++ all_of old.history.latest.version.levels)) written_is k.own_ids;
    below = λ lt. subst (AllByRecursion (λ t. t.id < old.next_table)) written_is (each_left (λ t. t.id < old.next_table) (written_of old) (all_of old.history.latest.version.levels) (k.below lt));
  }

  pub install_upholds : (w w' : World) (new : Core) → (AreOnDisk w job.tables → UpholdsFiles w w' (spent number old) new) → UpholdsFiles w w' old new
  install_upholds w w' new upholds stored = upholds (subst (AreOnDisk w) written_is stored.written) (stored_spent w (versions_left old) number old.flush stored)

  -- ---- refused, while no outcome is unknown

  -- there was no memory to begin
  pub unregistered : (new : Core) → old.lost ≡ None → new ≡ spent number old → Registers job (Err OutOfMemory) old new
  unregistered new certain is = record {
    installs = tt;
    stale = tt;
    unknown = λ h. absurd (cc h);
    unrecoverable = (λ h. absurd (cc h), λ some. let z = subst IsSome certain some in absurd (cc z));
    before = λ h. ⊎_elim (λ x. absurd (cc x)) (λ later. ⊎_elim (λ x. absurd (cc x)) (λ x. absurd (cc x)) later) h;
    store = λ h. absurd (cc h);
    memory = λ h. inl is;
    out_of_numbers = λ h. absurd (cc h);
    too_many_runs = λ h. absurd (cc h);
    numbered = λ h. absurd (cc h);
    only = inl (inl refl);
  }

  module _ (certain : old.lost ≡ None) (e : Error) (new : Core) (registers : Registers job (Err e) old new) (known : e ≡ CommitUnknown → ⊥) where
    refused_core : (new ≡ spent number old) ⊎ (new ≡ counted (spent number old))
    refused_core = ⊎_elim (λ a. ⊎_elim (λ is. registers.memory (ap Err is)) (λ b. ⊎_elim (λ is. inr (registers.store (ap Err is))) (λ is. absurd (known is)) b) a) (λ a. ⊎_elim (λ is. let z = subst IsSome certain (registers.unrecoverable.0 (ap Err is)) in absurd (cc z)) (λ b. ⊎_elim (λ is. inl (registers.before (inr (inl (ap Err is))))) (λ is. inl (registers.before (inr (inr (ap Err is))))) b) a) registers.only

    pub refused_lost : new.lost ≡ None
    refused_lost = ⊎_elim (λ (is : new ≡ spent number old). ap (λ (k : Core). k.lost) is ∙ certain) (λ (is : new ≡ counted (spent number old)). ap (λ (k : Core). k.lost) is ∙ certain) refused_core

    pub refused_written : written_of new ≡ []
    refused_written = ⊎_elim (λ (is : new ≡ spent number old). ap written_of is ∙ ap written_by closed) (λ (is : new ≡ counted (spent number old)). ap written_of is ∙ ap written_by closed) refused_core

    pub refused_history : new.history ≡ old.history
    refused_history = ⊎_elim (λ (is : new ≡ spent number old). ap (λ (k : Core). k.history) is) (λ (is : new ≡ counted (spent number old)). ap (λ (k : Core). k.history) is) refused_core

  -- the version has none of the job's tables
  pub others_than_job : (ids : List ℕ) → ((i : ℕ) → among ids i ≡ among (map (λ t. t.id) job.tables) i) → KeepsTables old.flush old.history old.next_table → AreOthers ids (all_of old.history.latest.version.levels)
  others_than_job ids same k =
      let now = all_of old.history.latest.version.levels in
      let own = subst (λ ts. HasOwnIds (ts ++ now)) written_is k.own_ids in
      each_weaker (IsApart job.tables) (λ t. among ids t.id ≡ false) (λ t apart. same t.id ∙ apart_ids job.tables t apart) now (parts_apart job.tables now own)
