-- A job that a logged tree registers is an act of the theory.
use Rattle.std.proofs.Common.{◌≡◌, ◌⊎◌, ⊎_elim, inl, inr, ℕ, ◌<◌, ◌≤◌, ◌^◌, max, false, List, [], ◌++◌, flat_map, take, drop, length, reverse, Option, Some, None, IsSome, Result, Ok, Err, IsErrOf, refl, sym, ap, ◌∙◌, subst, arith}
use Rattle.std.proofs.lemmas.Grind.{flat_map-append}
use Rattle.std.proofs.lemmas.List.{reverse-append, reverse-reverse, take-append-drop}
use Rattle.lsm_below.specs.Entries.{Entry, above}
use Rattle.lsm_below.specs.Numbers.{PlainNumbersAreRead}
use Rattle.lsm_below.specs.declared.error.Error.{Error}
use Rattle.lsm_below.specs.declared.error.Error.TheVariants.{CommitUnknown, Unrecoverable}
use Rattle.lsm_store.specs.World.{World}
use Rattle.lsm_model.specs.Journal.{Event}
use Rattle.lsm_model.specs.Beginnings.{Note}
use Rattle.lsm_model.specs.Views.{Memtables}
use Rattle.lsm_versions.specs.Levels.{SeenVersion}
use Rattle.lsm_flush.specs.Jobs.{SeenWritten, IsWrittenFrom, passed_by}
use Rattle.lsm_flush.specs.declared.jobs.Registered.{Registered}
use Rattle.lsm_log_model.specs.Logs.{Logged as Log}
use Rattle.lsm_log_model.proofs.Stacks.{above-append}
use Rattle.lsm_parts.specs.declared.version.super_version.SuperVersion.{SuperVersion}
use Rattle.lsm_state.specs.Core.{Core}
use Rattle.lsm_parts.specs.Held.{entries_of}
use Rattle.lsm_state.specs.Kept.{IsKeptTree}
use Rattle.lsm_state.specs.Deeds.{saved_of}
use Rattle.lsm_state.specs.FlushLaws.{FlushesAreDeeds}
use Rattle.lsm_state.specs.Commits.{UpholdsFiles, Upholds, counted}
use Rattle.lsm_state.specs.Flushes.{spent, IsFlushDeed, Registers}
use Rattle.lsm_logged.specs.Keeping.{SeenLogged, IsLogOf, KeepsLog}
use Rattle.lsm_logged.specs.Removing.{log_from_of, Passed}
use Rattle.lsm_logged.specs.Flushing.{RemovesBehind}
use Rattle.lsm_logged.specs.Acting.{LeadsBy, RegistersAct}
use Rattle.lsm_logged.proofs.Led.{leads_nowhere}
use Rattle.lsm_logged.proofs.FlushActs.{flush_leads, flush_lost, sealed_below}

-- the first sealed memtables hold no more than all of them
first_below : (mems : Memtables) (sealed ids : List ℕ) (n : ℕ) → take (length ids) sealed ≡ reverse ids → above (flat_map mems (reverse sealed)) ≤ n → above (flat_map mems ids) ≤ n
first_below mems sealed ids n first all =
    let others = reverse (drop (length ids) sealed) in
    let parts : reverse sealed ≡ others ++ ids = ap reverse (sym (take-append-drop (length ids) sealed)) ∙ reverse-append (take (length ids) sealed) (drop (length ids) sealed) ∙ ap (λ xs. others ++ reverse xs) first ∙ ap (λ xs. others ++ xs) (reverse-reverse ids) in
    let sum = ap above (ap (flat_map mems) parts ∙ flat_map-append mems others ids) ∙ above-append (flat_map mems others) (flat_map mems ids) in
    omega (arith, all, sum)

pub was_certain : {T : Type 0} (r : Result T Error) (c : Core) → (IsErrOf r Unrecoverable → ⊥) → (IsSome c.lost → IsErrOf r Unrecoverable) → c.lost ≡ None
was_certain r c known told = by_lost c.lost refl
  where
    by_lost : (l : Option SeenVersion) → c.lost ≡ l → c.lost ≡ None
    by_lost None is = is
    by_lost (Some v) is = absurd (known (told (subst (λ (p : Option SeenVersion). IsSome p) (sym is) refl)))

module _ {S : Type 0} (job : SeenWritten) (w w' : World) (old new : SeenLogged S) (doubt : new.doubted ≡ old.doubted) where
  abbrev number : ℕ
  number = job.job.number

  -- the job is spent, and nothing is installed
  spent_leads : Upholds w w' old.core new.core → (new.core ≡ spent number old.core) ⊎ (new.core ≡ counted (spent number old.core)) → (opened : List Entry) (journal : List Event) (notes : List Note) (t : Log) → IsLogOf journal notes old.core old.doubted t → KeepsLog w t → LeadsBy opened journal notes t [] w w' old new
  spent_leads commits same opened journal notes t is keeps = ⊎_elim
      (λ (e : new.core ≡ spent number old.core). leads_nowhere opened journal notes t w w' old new is keeps commits.files doubt commits.passes (ap (saved_of journal notes) e) (ap log_from_of e) (ap (λ (c : Core). c.lost) e) (let q = ap (λ (c : Core). c.seqno) e in omega (arith, q)))
      (λ (e : new.core ≡ counted (spent number old.core)). leads_nowhere opened journal notes t w w' old new is keeps commits.files doubt commits.passes (ap (saved_of journal notes) e) (ap log_from_of e) (ap (λ (c : Core). c.lost) e) (let q = ap (λ (c : Core). c.seqno) e in omega (arith, q)))
      same

  pub spent_acts : Upholds w w' old.core new.core → new.core ≡ spent number old.core → RegistersAct job (Err Unrecoverable) w w' old new
  spent_acts commits same opened start journal notes t is keeps next holds = record {
    installed = tt;
    stale = tt;
    unknown = λ u. absurd (cc u);
    refused = λ isnt. spent_leads commits (inl same) opened journal notes t is keeps;
  }

  module _ (sure : old.doubted ≡ false) (small : old.core.seqno < 2 ^ 64) (law : FlushesAreDeeds) (kept : IsKeptTree old.core) (written : IsWrittenFrom job.job job.watermark job.tables) where
    refused_core : (e : Error) → Registers job (Err e) old.core new.core → (e ≡ CommitUnknown → ⊥) → (new.core ≡ spent number old.core) ⊎ (new.core ≡ counted (spent number old.core))
    refused_core e r isnt = ⊎_elim
        (⊎_elim (λ m. r.memory (ap Err m)) (⊎_elim (λ m. inr (r.store (ap Err m))) (λ m. absurd (isnt m))))
        (⊎_elim (λ m. inl (r.before (inl (ap Err m)))) (⊎_elim (λ m. inl (r.before (inr (inl (ap Err m))))) (λ m. inl (r.before (inr (inr (ap Err m)))))))
        r.only

    pub refused_acts : Upholds w w' old.core new.core → (e : Error) → Registers job (Err e) old.core new.core → RegistersAct job (Err e) w w' old new
    refused_acts commits e r opened start journal notes t is keeps next holds = record {
      installed = tt;
      stale = tt;
      unknown = λ u.
          let none = was_certain {T = Registered} (Err e) old.core (λ k. let z : IsErrOf {T = Registered} (Err CommitUnknown) Unrecoverable = subst (λ (x : Result Registered Error). IsErrOf x Unrecoverable) u k in absurd (cc z)) r.unrecoverable.1 in
          let both = r.unknown u in
          let core = both.1.is in
          let low = first_below (entries_of old.core.memtables) old.core.history.latest.sealed_memtables job.job.ids old.core.seqno both.0.sealed (sealed_below w w' old new sure none doubt small commits.files opened start journal notes t is keeps next holds) in
          flush_lost w w' old new sure none doubt small commits.files opened start journal notes t is keeps next holds job both.0.entries low both.1.next.version.log_from both.1.flushed.version.log_from both.1.next.version refl (ap (λ (c : Core). c.seqno) core) (ap (λ (c : Core). c.lost) core) (ap log_from_of core)
          (law.lost job old.core new.core kept none written both.0 both.1) commits.passes;
      refused = λ isnt. spent_leads commits (refused_core e r isnt) opened journal notes t is keeps;
    }

    pub registered_acts : (a b : Registered) (mid : Core) → Registers job (Ok a) old.core mid → b.installed ≡ a.installed → new.core ≡ mid → UpholdsFiles w w' old.core new.core → PlainNumbersAreRead → Passed (log_from_of new.core) w w' → RemovesBehind w w' old.core new.core
        → (b.installed ≡ false → Upholds w w' old.core new.core) → RegistersAct job (Ok b) w w' old new
    registered_acts a b mid r told same files read passed behind still opened start journal notes t is keeps next holds = record {
      installed = λ yes.
          let none = was_certain {T = Registered} (Ok a) old.core (λ k. cc k) r.unrecoverable.1 in
          let both = r.installs (sym told ∙ yes) in
          let i = both.1 in
          let low = first_below (entries_of old.core.memtables) old.core.history.latest.sealed_memtables job.job.ids old.core.seqno both.0.sealed (sealed_below w w' old new sure none doubt small files opened start journal notes t is keeps next holds) in
          let version : log_from_of mid ≡ max (log_from_of old.core) (passed_by job.job.sources) = ap (λ (sv : SuperVersion). sv.version.log_from) i.cleans.history.latest ∙ i.flushed.version.log_from in
          let deed = law.installed job a.cleaned old.core mid kept none written both.0 i in
          flush_leads w w' old new sure none doubt small files opened start journal notes t is keeps next holds job both.0.entries low (log_from_of mid) version (sym (ap log_from_of same)) (ap (λ (c : Core). c.seqno) (same ∙ i.cleans.rest)) (ap (λ (c : Core). c.lost) (same ∙ i.cleans.rest) ∙ none)
          (subst (IsFlushDeed job old.core) (sym same) deed) read passed behind;
      stale = λ no. spent_leads (still no) (inl (same ∙ (r.stale (sym told ∙ no)).1.1)) opened journal notes t is keeps;
      unknown = λ u. absurd (cc u);
      refused = tt;
    }
