-- What steps may add grows with what strategies may drop.
use Rattle.std.proofs.Common.{◌≡◌, ℕ, List, [], ◌∷◌}
use Rattle.std.specs.List.{AllByRecursion}
use Rattle.lsm_below.specs.Each.{each_weaker}
use Rattle.lsm_below.specs.Entries.{Entry}
use Rattle.lsm_below.specs.Ranges.{Range}
use Rattle.lsm_model.specs.Journal.{Event}
use Rattle.lsm_model.specs.declared.journal.JournalEntry.TheVariants.{Write as Wrote, Clear as DidClear, Install, Dropped, Mark, Read}
use Rattle.lsm_run_model.specs.Outcomes.{Told, Past, after, sealed_in}
use Rattle.lsm_runs.specs.declared.steps.JobStep.{JobStep}
use Rattle.lsm_runs.specs.declared.steps.JobStep.TheVariants as job
use Rattle.lsm_runs.specs.declared.steps.Reply.{Reply}
use Rattle.lsm_runs.specs.declared.steps.Step.{Step as Call}
use Rattle.lsm_runs.specs.declared.steps.Step.TheVariants as step
use Rattle.lsm_runs.specs.Adds.{IsUpkeepOrDrop, JobAdds, Adds}
use Rattle.lsm_runs.specs.Dropping.{Drops}
use Rattle.lsm_runs.specs.Notes.{EachTells}
use Rattle.lsm_runs.specs.OpenFlushes.{BegunFlush, begun_after}

upkeep_grows : (Of : ℕ → Type 0) (May More : List Range → Type 0) → ((ranges : List Range) → May ranges → More ranges) → (x : Event) → IsUpkeepOrDrop Of May x → IsUpkeepOrDrop Of More x
upkeep_grows Of May More more (Dropped ranges n) h = more ranges h
upkeep_grows Of May More more (Mark w) h = h
upkeep_grows Of May More more (Install n) h = h
upkeep_grows Of May More more (Wrote e) h = h
upkeep_grows Of May More more (DidClear n) h = h
upkeep_grows Of May More more (Read s question told) h = h

module _ (May More : Drops) (more : (at : ℕ) (ranges : List Range) → May at ranges → More at ranges) where
  upkeeps_grow : (Of : ℕ → Type 0) (at : ℕ) (events : List Event) → AllByRecursion (IsUpkeepOrDrop Of (May at)) events → AllByRecursion (IsUpkeepOrDrop Of (More at)) events
  upkeeps_grow Of at events h = each_weaker (IsUpkeepOrDrop Of (May at)) (IsUpkeepOrDrop Of (More at)) (upkeep_grows Of (May at) (More at) (more at)) events h

  job_grows : (flush : BegunFlush) (x : JobStep) (events : List Event) → JobAdds May flush x events → JobAdds More flush x events
  job_grows flush (job.BeginCompaction at o) events h = upkeeps_grow (λ v. v ≡ o.mvcc_gc_watermark) at events h
  job_grows flush x events h = h

  pub adds_grow : (begun : ℕ → BegunFlush) (x : Call) (r : Reply) (events : List Event) → Adds May begun x r events → Adds More begun x r events
  adds_grow begun (step.Compact at w) r events h = upkeeps_grow (λ v. v ≡ w) at events h
  adds_grow begun (step.DoCompaction at o) r events h = upkeeps_grow (λ v. v ≡ o.mvcc_gc_watermark) at events h
  adds_grow begun (step.AtSlot slot x) r events h = job_grows (begun slot) x events h
  adds_grow begun x r events h = h

  pub tells_grow : (opened : List Entry) (past : Past) (begun : ℕ → BegunFlush) (xs : List Call) (ts : List (Told Reply)) → EachTells May opened past begun xs ts → EachTells More opened past begun xs ts
  tells_grow opened past begun [] [] h = tt
  tells_grow opened past begun [] (t ∷ ts) h = absurd h
  tells_grow opened past begun (x ∷ xs) [] h = absurd h
  tells_grow opened past begun (x ∷ xs) (t ∷ ts) h =
      (adds_grow begun x t.reply t.entries h.0, h.1, tells_grow opened (after opened past t) (begun_after (sealed_in past.notes) x t.reply begun) xs ts h.2)
