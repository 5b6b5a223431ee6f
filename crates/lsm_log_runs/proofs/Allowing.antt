-- What a step adds where it may drop less, it adds where it may drop more; and what is allowed where only stores are in view.
use Rattle.std.proofs.Common.{◌≡◌, ⊎_elim, ℕ, Bool, true, false, cond, List, [], ◌∷◌, map, filter, refl, subst, sym}
use Rattle.std.proofs.lemmas.Bool.{or_cases}
use Rattle.lsm_below.specs.Keys.{Bytes}
use Rattle.lsm_below.specs.Ranges.{Range, in_range}
use Rattle.lsm_below.specs.declared.error.Error.TheVariants.{CommitUnknown, AfterCommit}
use Rattle.lsm_model.specs.Journal.{Event, in_any}
use Rattle.lsm_model.specs.declared.journal.JournalEntry.TheVariants.{Dropped}
use Rattle.lsm_pick.specs.declared.bounds.OwnedBounds.{OwnedBounds}
use Rattle.lsm_pick.specs.Simple.{holds}
use Rattle.lsm_tables.specs.Tables.{SeenTable}
use Rattle.lsm_versions.specs.Levels.{all_of, range}
use Rattle.lsm_runs.specs.Adds.{RangesWithin}
use Rattle.lsm_runs.specs.Compacting.{Strategies}
use Rattle.lsm_runs.specs.Dropping.{Drops, AllowsDrops}
use Rattle.lsm_runs.proofs.Dropping.{IsWithin, key_within}
use Rattle.lsm_state.specs.Compactions.{levels_of}
use Rattle.lsm_state.specs.Core.{Core}
use Rattle.lsm_state.specs.Dropping.{drops_some}
use Rattle.lsm_runs.specs.declared.steps.Compacted.TheVariants.{Installed}
use Rattle.lsm_runs.specs.declared.steps.JobStep.{JobStep}
use Rattle.lsm_runs.specs.declared.steps.JobStep.TheVariants.{BeginCompaction}
use Rattle.lsm_runs.specs.declared.steps.Reply.{Reply}
use Rattle.lsm_runs.specs.declared.steps.Reply.TheVariants.{Compacted, Refused}
use Rattle.lsm_log_runs.specs.declared.steps.LogStep.{LogStep}
use Rattle.lsm_log_runs.specs.declared.steps.LogStep.TheVariants.{AtSlot, Compact, MajorCompact, DropRange}
use Rattle.lsm_log_runs.specs.Adds.{IsDrop, AddsCompaction, AddsJob, LogAdds}
use Rattle.lsm_log_runs.specs.Dropping.{DropsBy, MayDropBy}
use Rattle.lsm_log_runs.specs.Pasts.{LogPast}

module _ (Less More : List Range → Type 0) (grows : (ranges : List Range) → Less ranges → More ranges) (c : ℕ) where
  drop_more : (events : List Event) → IsDrop Less c events → IsDrop More c events
  drop_more [] d = tt
  drop_more (Dropped ranges m ∷ []) d = (d.0, grows ranges d.1)
  drop_more (Dropped ranges m ∷ (x ∷ events)) d = absurd d
  drop_more (x ∷ events) d = absurd d

  compaction_more : (w : ℕ) (reply : Reply) (old new : LogPast) → AddsCompaction Less c w reply old new → AddsCompaction More c w reply old new
  compaction_more w (Compacted Installed) old new h = (h.0, drop_more h.0 h.1, h.2)
  compaction_more w (Compacted outcome) old new h = h
  compaction_more w (Refused AfterCommit) old new h = (h.0, drop_more h.0 h.1, h.2)
  compaction_more w (Refused CommitUnknown) old new h = (h.0, drop_more h.0 h.1, h.2)
  compaction_more w (Refused x) old new h = h
  compaction_more w reply old new h = h

  job_more : (slot : ℕ) (step : JobStep) (reply : Reply) (old new : LogPast) → AddsJob Less c slot step reply old new → AddsJob More c slot step reply old new
  job_more slot (BeginCompaction at o) reply old new h = compaction_more o.mvcc_gc_watermark reply old new h
  job_more slot step reply old new h = h

  pub adds_more : (x : LogStep) (reply : Reply) (old new : LogPast) → LogAdds Less c x reply old new → LogAdds More c x reply old new
  adds_more (Compact at w) reply old new h = compaction_more w reply old new h
  adds_more (MajorCompact target w) reply old new h = compaction_more w reply old new h
  adds_more (DropRange low high) reply old new h = compaction_more 0 reply old new h
  adds_more (AtSlot slot step) reply old new h = job_more slot step reply old new h
  adds_more x reply old new h = h

-- ---- what is allowed

-- each key of the tables within bounds lies within them
keys_within : (bounds : OwnedBounds) (k : Bytes) (ts : List SeenTable) → in_any k (map range (filter (λ t. holds bounds (range t)) ts)) ≡ true → IsWithin bounds k
keys_within bounds k [] i = absurd (cc i)
keys_within bounds k (t ∷ ts) i = by_test (holds bounds (range t)) refl (keys_within bounds k ts) i
  where
    rest : List SeenTable
    rest = filter (λ x. holds bounds (range x)) ts

    by_test : (b : Bool) → holds bounds (range t) ≡ b → (in_any k (map range rest) ≡ true → IsWithin bounds k) → in_any k (map range (cond b (t ∷ rest) rest)) ≡ true → IsWithin bounds k
    by_test true e later h = ⊎_elim (λ here. key_within bounds (range t) k e here) later (or_cases (in_range k (range t)) (in_any k (map range rest)) h)
    by_test false e later h = later h

module _ (strategies : Strategies) (May : Drops) (allows : AllowsDrops May strategies) (c : Core) where
  pub drops_allowed : (x : LogStep) (ranges : List Range) → DropsBy strategies c x ranges → MayDropBy May x ranges
  drops_allowed (Compact at w) ranges d = allows at ranges (drops_some (strategies.may_choose at) c ranges d)
  drops_allowed (AtSlot slot (BeginCompaction at o)) ranges d = allows at ranges (drops_some (strategies.may_choose at) c ranges d)
  drops_allowed (AtSlot slot step) ranges d = absurd d
  drops_allowed (DropRange low high) ranges d = subst (RangesWithin low high) (sym d) (λ k i. keys_within (record { start = low; end = high }) k (all_of (levels_of c)) i)
  drops_allowed x ranges d = absurd d
