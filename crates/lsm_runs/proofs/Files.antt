-- What steps leave of a tree's files.
use Rattle.std.proofs.Common.{◌≡◌, ◌⊎◌, ⊎_elim, inl, inr, ◌++◌, List, [], Option, None, sym, ap, subst}
use Rattle.lsm_model.specs.Journal.{Event}
use Rattle.lsm_flush.specs.Jobs.{SeenOpen}
use Rattle.lsm_below.specs.Members.{IsIn}
use Rattle.lsm_store.specs.World.{Image, World}
use Rattle.lsm_versions.specs.Levels.{SeenVersion}
use Rattle.lsm_commit.specs.Stored.{IsStored, HoldsOneOf, Leaves}
use Rattle.lsm_state.specs.Core.{Core, versions_left, written_by, written_of}
use Rattle.lsm_state.specs.Commits.{Upholds}
use Rattle.lsm_runs.specs.declared.slots.Job.{Job}
use Rattle.lsm_runs.specs.declared.steps.JobStep.{JobStep}
use Rattle.lsm_runs.specs.declared.steps.JobStep.TheVariants.{FlushToTables, RegisterTables, BeginCompaction, FinishCompaction}
use Rattle.lsm_runs.specs.declared.steps.Step.{Step}
use Rattle.lsm_runs.specs.declared.steps.Step.TheVariants.{AtSlot, Flush, FlushActiveMemtable, Compact, DoCompaction, MajorCompact, DropRange, Clear}
use Rattle.lsm_runs.specs.declared.steps.Reply.{Reply}
use Rattle.lsm_runs.specs.Files.{StaysStored, JobLeavesFiles, LeavesFiles}
use Rattle.lsm_runs.proofs.Members.{in_either, in_first}
use Rattle.lsm_runs.proofs.Resting.{Rests, job_rests, alone_rests}
use Rattle.lsm_runs.specs.Compacting.{Strategies}
use Rattle.lsm_runs.specs.JobSteps.{TakesJob}
use Rattle.lsm_runs.specs.Runs.{Takes, TakesAlone}
use Rattle.lsm_runs.specs.Slots.{Stage, Closes}

-- what must stand on the disk stays, or less must
rests_stored : (w : World) (old new : Core) → Rests old new → StaysStored w w old new
rests_stored w old new r h = go r.written
  where
    less : IsStored w (versions_left old) []
    less = record { current = h.current; whole = h.whole; written = tt; no_version = h.no_version; in_tables = h.in_tables }

    go : (written_of new ≡ written_of old) ⊎ (written_of new ≡ []) → IsStored w (versions_left new) (written_of new)
    go (inl is) = subst (λ vs. IsStored w vs (written_of new)) (sym r.versions) (subst (λ ts. IsStored w (versions_left old) ts) (sym is) h)
    go (inr is) = subst (λ vs. IsStored w vs (written_of new)) (sym r.versions) (subst (λ ts. IsStored w (versions_left old) ts) (sym is) less)

-- ---- all steps

-- what stood before stands before or after
in_both : (v : SeenVersion) (xs ys : List SeenVersion) → IsIn v (xs ++ xs) → IsIn v (xs ++ ys)
in_both v xs ys i = ⊎_elim (λ h. in_first v xs ys h) (λ h. in_first v xs ys h) (in_either v xs xs i)

module _ {F : Type 0} (world : F → World) (was is : F) where
  -- where the store stays
  kept : (old new : Core) → Upholds (world was) (world was) old old → Rests old new → is ≡ was → Upholds (world was) (world is) old new
  kept old new up r e = rw e (record { files = λ h. (rests_stored (world was) old new r h, more (up.files h).1); passes = up.passes })
    where
      among : (image : Image) → HoldsOneOf (versions_left old ++ versions_left old) image → HoldsOneOf (versions_left old ++ versions_left new) image
      among image h = (h.0, in_both h.0 (versions_left old) (versions_left new) h.1, h.2, h.3)

      more : Leaves (world was) (world was) (versions_left old ++ versions_left old) → Leaves (world was) (world was) (versions_left old ++ versions_left new)
      more l = record {
        later = l.later;
        each = λ image since. among image (l.each image since);
        before = λ t image low since. ⊎_elim (λ s. inl s) (λ h. inr (among image h)) (l.before t image low since);
      }

  job_upheld : (strategies : Strategies) (step : JobStep) (reply : Reply) (events : List Event) (before after : Option Job) (old new : Core) → Upholds (world was) (world was) old old → TakesJob strategies step reply events before after old new → JobLeavesFiles world step was is old new → Upholds (world was) (world is) old new
  job_upheld strategies FlushToTables reply events before after old new u t l = l
  job_upheld strategies RegisterTables reply events before after old new u t l = l
  job_upheld strategies (BeginCompaction at o) reply events before after old new u t l = l
  job_upheld strategies FinishCompaction reply events before after old new u t l = l
  job_upheld strategies step reply events before after old new u t l = kept old new u (job_rests strategies step reply events before after old new t) l

  alone_upheld : (strategies : Strategies) (x : Step) (reply : Reply) (events : List Event) (old new : Core) → Upholds (world was) (world was) old old → TakesAlone strategies x reply events old new → LeavesFiles world x was is old new → Upholds (world was) (world is) old new
  alone_upheld strategies (Flush n) reply events old new u t l = l
  alone_upheld strategies (FlushActiveMemtable n) reply events old new u t l = l
  alone_upheld strategies (Compact at n) reply events old new u t l = l
  alone_upheld strategies (DoCompaction at o) reply events old new u t l = l
  alone_upheld strategies (MajorCompact target n) reply events old new u t l = l
  alone_upheld strategies (DropRange low high) reply events old new u t l = l
  alone_upheld strategies Clear reply events old new u t l = l
  alone_upheld strategies (AtSlot slot step) reply events old new u t l = absurd t
  alone_upheld strategies x reply events old new u t l = kept old new u (alone_rests strategies x reply events old new t) l

  pub step_upheld : (strategies : Strategies) (x : Step) (reply : Reply) (events : List Event) (old new : Stage) → Upholds (world was) (world was) old.core old.core → Takes strategies x reply events old new → LeavesFiles world x was is old.core new.core → Upholds (world was) (world is) old.core new.core
  step_upheld strategies (AtSlot slot step) reply events old new u t l = job_upheld strategies step reply events (old.jobs slot) (new.jobs slot) old.core new.core u t.0 l
  step_upheld strategies x reply events old new u t l = alone_upheld strategies x reply events old.core new.core u t.0 l

  -- what is given up needs no tables
  pub closed_stored : (old new : Core) → Closes old new → is ≡ was → StaysStored (world was) (world is) old new
  closed_stored old new c e h = subst (λ vs. IsStored (world is) vs (written_of new)) (sym (ap versions_left c.rest)) (rw e (go c.flush))
    where
      less : IsStored (world was) (versions_left old) (written_of old) → IsStored (world was) (versions_left old) []
      less s = record { current = s.current; whole = s.whole; written = tt; no_version = s.no_version; in_tables = s.in_tables }

      go : (new.flush ≡ old.flush) ⊎ (new.flush ≡ None) → IsStored (world was) (versions_left old) (written_of new)
      go (inl f) = subst (λ (o : Option SeenOpen). IsStored (world was) (versions_left old) (written_by o)) (sym f) h
      go (inr f) = subst (λ (o : Option SeenOpen). IsStored (world was) (versions_left old) (written_by o)) (sym f) (less h)
