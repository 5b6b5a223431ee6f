-- Flushes of a logged tree are acts of the theory.
use Rattle.std.proofs.Common.{◌≡◌, ◌⊎◌, ⊎_elim, inl, inr, ℕ, ◌+◌, ◌<◌, ◌≤◌, ◌^◌, max, false, List, [], ◌∷◌, map, flat_map, Option, Some, None, option_to_list, unwrap_or, IsSome, Result, Ok, Err, IsErrOf, refl, sym, ap, ◌∙◌, subst, arith}
use Rattle.lsm_below.specs.Entries.{Entry, above}
use Rattle.lsm_below.specs.Numbers.{PlainNumbersAreRead}
use Rattle.lsm_below.specs.declared.error.Error.{Error}
use Rattle.lsm_below.specs.declared.error.Error.TheVariants.{CommitUnknown, Unrecoverable}
use Rattle.lsm_store.specs.World.{World}
use Rattle.lsm_model.specs.Journal.{Event, Map, next_number}
use Rattle.lsm_model.specs.Sound.{Holds}
use Rattle.lsm_model.specs.Steps.{State, Flushed}
use Rattle.lsm_model.specs.Views.{Memtables, Placed}
use Rattle.lsm_model.specs.Beginnings.{Note, FlushedIds, Saved}
use Rattle.lsm_model.specs.declared.journal.JournalEntry.TheVariants.{Install}
use Rattle.lsm_model.proofs.Journals.{next_of-le}
use Rattle.lsm_memtable.specs.Memtables.{highest_of}
use Rattle.lsm_versions.specs.Levels.{SeenVersion, placed_in, placed_of}
use Rattle.lsm_commit.specs.Foreign.{Passes}
use Rattle.lsm_flush.specs.Jobs.{SeenJob, SeenWritten, after, passed_by}
use Rattle.lsm_flush.specs.declared.jobs.Registered.{Registered}
use Rattle.lsm_log_model.specs.Logs.{Logged as Log, MayBeDrawn, next_from}
use Rattle.lsm_log_model.proofs.Stacks.{above-append}
use Rattle.lsm_log_model.proofs.Following.{mems_below}
use Rattle.lsm_parts.specs.declared.version.super_version.SuperVersion.{SuperVersion}
use Rattle.lsm_state.specs.Core.{Core, state_of}
use Rattle.lsm_parts.specs.Held.{entries_of}
use Rattle.lsm_state.specs.Deeds.{saved_of}
use Rattle.lsm_state.specs.Commits.{UpholdsFiles, Upholds}
use Rattle.lsm_state.specs.Flushes.{sealed_ids, flush_of, IsFlushDeed, IsLostFlush}
use Rattle.lsm_state.specs.WholeFlushes.{Flushes, InstallsWhole, DoubtsWhole, LeavesRest}
use Rattle.lsm_logged.specs.Keeping.{SeenLogged, IsLogOf, KeepsLog}
use Rattle.lsm_logged.specs.Removing.{log_from_of, Passed}
use Rattle.lsm_logged.specs.Flushing.{RemovesBehind}
use Rattle.lsm_logged.specs.Acting.{LeadsBy, LeadsByCommit, LeadsByLost, sealed_flush, FlushesAct}
use Rattle.lsm_logged.proofs.Led.{leads_nowhere}
use Rattle.lsm_logged.proofs.CommitActs.{commit_leads, lost_leads}

-- ---- from where a log is read after a flush

highest_above : (m : ℕ) (es : List Entry) → max m (unwrap_or (highest_of es) 0) + 1 ≡ max (m + 1) (above es)
highest_above m [] = omega arith
highest_above m (e ∷ es) = let ih = highest_above e.key.seqno es in omega (arith, ih)

after_above : (es : List Entry) → above es < 2 ^ 64 → after (highest_of es) ≡ above es
after_above [] small = refl
after_above (e ∷ es) small = let ih = highest_above e.key.seqno es in omega (arith, ih, small)

passed_above : (mems : Memtables) (ids : List ℕ) → above (flat_map mems ids) < 2 ^ 64 → passed_by (map mems ids) ≡ above (flat_map mems ids)
passed_above mems [] small = refl
passed_above mems (i ∷ ids) small =
    let parts = above-append (mems i) (flat_map mems ids) in
    let head = after_above (mems i) (omega (arith, parts, small)) in
    let tail = passed_above mems ids (omega (arith, parts, small)) in
    omega (arith, parts, head, tail)

module _ {S : Type 0} (w w' : World) (old new : SeenLogged S) (sure : old.doubted ≡ false) (none : old.core.lost ≡ None) (doubt : new.doubted ≡ old.doubted) (small : old.core.seqno < 2 ^ 64) (files : UpholdsFiles w w' old.core new.core)
    (opened : List Entry) (start : Map) (journal : List Event) (notes : List Note) (t : Log) (is : IsLogOf journal notes old.core old.doubted t) (keeps : KeepsLog w t) (next : MayBeDrawn opened t old.core.seqno) (holds : Holds opened start t.tree.state) where
  abbrev mems : Memtables
  mems = entries_of old.core.memtables

  -- sealed memtables hold only what is below the counter
  pub sealed_below : above (flat_map mems (sealed_ids old.core)) ≤ old.core.seqno
  sealed_below =
      let h : Holds opened start (state_of journal old.core) = subst (λ (s : Saved). Holds opened start s.state) is.tree holds in
      let high : next_number opened journal ≤ old.core.seqno = subst (λ (s : Saved). next_number opened s.state.journal ≤ old.core.seqno) is.tree next.above_journal in
      let low = mems_below opened start (state_of journal old.core) old.core.seqno h (λ k. let a = next_of-le k opened journal in omega (arith, a, high)) in
      let parts = above-append (mems old.core.history.latest.active_memtable) (flat_map mems (sealed_ids old.core)) in
      omega (arith, low, parts)

  module _ (job : SeenWritten) (sources : job.job.sources ≡ map mems job.job.ids) (low : above (flat_map mems job.job.ids) ≤ old.core.seqno) (from : ℕ) (version : from ≡ max (log_from_of old.core) (passed_by job.job.sources)) where
    next_is : (x : State) → x.mems ≡ t.tree.state.mems → next_from x t.log_from (flush_of job) ≡ from
    next_is x same =
        let m : x.mems ≡ mems = same ∙ ap (λ (s : Saved). s.state.mems) is.tree in
        let a : above (flat_map x.mems job.job.ids) ≡ above (flat_map mems job.job.ids) = ap (λ (ms : Memtables). above (flat_map ms job.job.ids)) m in
        let p : passed_by job.job.sources ≡ above (flat_map mems job.job.ids) = ap passed_by sources ∙ passed_above mems job.job.ids (omega (arith, low, small)) in
        let f = is.from in
        omega (arith, a, p, f, version)

    rises : t.log_from ≤ from
    rises = let f = is.from in omega (arith, f, version)

    pub flush_leads : from ≡ log_from_of new.core → new.core.seqno ≡ old.core.seqno + 1 → new.core.lost ≡ None → IsFlushDeed job old.core new.core → PlainNumbersAreRead → Passed (log_from_of new.core) w w' → RemovesBehind w w' old.core new.core
        → LeadsByCommit job.watermark (flush_of job) (Install old.core.seqno ∷ []) (FlushedIds job.job.ids ∷ []) opened journal notes t w w' old new
    flush_leads same counter lost deeds read passed behind =
        commit_leads w w' old new sure none doubt counter files opened start journal notes t is keeps next holds job.watermark (flush_of job) (Install old.core.seqno ∷ []) [] refl refl refl from next_is (FlushedIds job.job.ids ∷ []) same rises lost deeds read small passed behind

    pub flush_lost : (v : SeenVersion) → from ≡ v.log_from → new.core.seqno ≡ old.core.seqno + 1 → new.core.lost ≡ Some v → log_from_of new.core ≡ log_from_of old.core → IsLostFlush job old.core new.core → Passes w w' → LeadsByLost job.watermark (flush_of job) [] opened journal notes t w w' old new
    flush_lost v same counter lost stays deeds passes =
        lost_leads w w' old new sure none doubt counter files opened start journal notes t is keeps next holds job.watermark (flush_of job) (Install old.core.seqno ∷ []) [] refl refl refl from next_is [] deeds.0 v deeds.1 lost same rises stays passes

  -- ---- a flush in one call

  module _ (watermark : ℕ) where
    -- it is installed
    pub installed_acts : (size : ℕ) (a : Registered) (mid : Core) → InstallsWhole watermark size a old.core mid → new.core ≡ mid → PlainNumbersAreRead → Passed (log_from_of new.core) w w' → RemovesBehind w w' old.core new.core
        → (made : List Placed) × LeadsByCommit watermark (sealed_flush watermark old made) (Install old.core.seqno ∷ []) (FlushedIds (sealed_ids old.core) ∷ []) opened journal notes t w w' old new
    installed_acts size a mid i same read passed behind =
        let job = i.job in
        let ids : job.job.ids ≡ sealed_ids old.core = ap (λ (j : SeenJob). j.ids) i.whole.of_sealed in
        let sources : job.job.sources ≡ map mems job.job.ids = ap (λ (j : SeenJob). j.sources) i.whole.of_sealed ∙ ap (map mems) (sym ids) in
        let low = subst (λ xs. above (flat_map mems xs) ≤ old.core.seqno) (sym ids) sealed_below in
        let latest : mid.history.latest ≡ i.installs.next = i.installs.cleans.history.latest in
        let version : log_from_of mid ≡ max (log_from_of old.core) (passed_by job.job.sources) = ap (λ (sv : SuperVersion). sv.version.log_from) latest ∙ i.installs.flushed.version.log_from in
        let counter = ap (λ (c : Core). c.seqno) (same ∙ i.installs.cleans.rest) in
        let lost = ap (λ (c : Core). c.lost) (same ∙ i.installs.cleans.rest) ∙ none in
        let led = flush_leads job sources low (log_from_of mid) version (sym (ap log_from_of same)) counter lost (subst (IsFlushDeed job old.core) (sym same) i.deeds) read passed behind in (
          placed_in 0 job.tables,
          subst (λ xs. LeadsByCommit watermark (Flushed watermark xs (placed_in 0 job.tables)) (Install old.core.seqno ∷ []) (FlushedIds xs ∷ []) opened journal notes t w w' old new) ids
              (subst (λ k. LeadsByCommit k (Flushed k job.job.ids (placed_in 0 job.tables)) (Install old.core.seqno ∷ []) (FlushedIds job.job.ids ∷ []) opened journal notes t w w' old new) i.whole.watermark led),
        )

    -- its outcome is unknown
    pub unknown_acts : DoubtsWhole watermark old.core new.core → Passes w w' → (made : List Placed) × LeadsByLost watermark (sealed_flush watermark old made) [] opened journal notes t w w' old new
    unknown_acts i passes =
        let job = i.job in
        let ids : job.job.ids ≡ sealed_ids old.core = ap (λ (j : SeenJob). j.ids) i.whole.of_sealed in
        let sources : job.job.sources ≡ map mems job.job.ids = ap (λ (j : SeenJob). j.sources) i.whole.of_sealed ∙ ap (map mems) (sym ids) in
        let low = subst (λ xs. above (flat_map mems xs) ≤ old.core.seqno) (sym ids) sealed_below in
        let core = i.doubts.is in
        let v = i.doubts.next.version in
        let led = flush_lost job sources low v.log_from i.doubts.flushed.version.log_from v refl (ap (λ (c : Core). c.seqno) core) (ap (λ (c : Core). c.lost) core) (ap log_from_of core) i.deeds passes in (
          placed_in 0 job.tables,
          subst (λ xs. LeadsByLost watermark (Flushed watermark xs (placed_in 0 job.tables)) [] opened journal notes t w w' old new) ids
              (subst (λ k. LeadsByLost k (Flushed k job.job.ids (placed_in 0 job.tables)) [] opened journal notes t w w' old new) i.whole.watermark led),
        )

-- nothing is installed
module _ {S : Type 0} (w w' : World) (old new : SeenLogged S) (doubt : new.doubted ≡ old.doubted) (commits : Upholds w w' old.core new.core)
    (opened : List Entry) (journal : List Event) (notes : List Note) (t : Log) (is : IsLogOf journal notes old.core old.doubted t) (keeps : KeepsLog w t) where
  pub same_acts : new.core ≡ old.core → LeadsBy opened journal notes t [] w w' old new
  same_acts e = leads_nowhere opened journal notes t w w' old new is keeps commits.files doubt commits.passes (ap (saved_of journal notes) e) (ap log_from_of e) (ap (λ (c : Core). c.lost) e) (let q = ap (λ (c : Core). c.seqno) e in omega (arith, q))

  pub rest_acts : LeavesRest old.core new.core → new.core.lost ≡ old.core.lost → LeadsBy opened journal notes t [] w w' old new
  rest_acts rest lost =
      let tree = ap (saved_of journal notes) rest.rest ∙ ap (λ l. record { state = state_of journal old.core; notes = notes; others = map (λ v. placed_of v.levels) (option_to_list l) }) lost in
      leads_nowhere opened journal notes t w w' old new is keeps commits.files doubt commits.passes tree (ap log_from_of rest.rest) lost (⊎_elim (λ e. omega (arith, e)) (λ e. omega (arith, e)) rest.seqno)

-- ---- what an answer says of the tree before

some_sealed : (c : Core) → (sealed_ids c ≡ []) ⊎ (sealed_ids c ≡ [] → ⊥)
some_sealed c = by_list (sealed_ids c)
  where
    by_list : (xs : List ℕ) → (xs ≡ []) ⊎ (xs ≡ [] → ⊥)
    by_list [] = inl refl
    by_list (x ∷ xs) = inr (λ e. absurd (cc e))

-- an answer that isn't `Ok None`, nor `Unrecoverable`, is told of a tree whose outcomes are known
pub was_certain : (w : ℕ) (r : Result (Option (ℕ × Registered)) Error) (old new : Core) → Flushes w r old new → (r ≡ Ok None → ⊥) → (IsErrOf r Unrecoverable → ⊥) → (sealed_ids old ≡ [] → ⊥) × (old.lost ≡ None)
was_certain w r old new f some known = ⊎_elim (λ e. absurd (some (f.none e))) (λ sealed. (sealed, by_lost sealed old.lost refl)) (some_sealed old)
  where
    by_lost : (sealed_ids old ≡ [] → ⊥) → (l : Option SeenVersion) → old.lost ≡ l → old.lost ≡ None
    by_lost sealed None is = is
    by_lost sealed (Some v) is = absurd (known (f.unrecoverable.1 (sealed, subst (λ (p : Option SeenVersion). IsSome p) (sym is) refl)))

-- ---- the call

-- a record has unknown outcome, and nothing is done
pub unsure_flush : {S : Type 0} (watermark : ℕ) (w : World) (old : SeenLogged S) → Upholds w w old.core old.core → FlushesAct watermark (Err Unrecoverable) w w old old
unsure_flush watermark w old still opened start journal notes t is keeps next holds = same_acts w w old old refl still opened journal notes t is keeps refl

module _ {S : Type 0} (watermark : ℕ) (w w' : World) (old new : SeenLogged S) (sure : (old.doubted ≡ false) ⊎ (sealed_ids old.core ≡ [])) (doubt : new.doubted ≡ old.doubted) (small : old.core.seqno < 2 ^ 64) where
  no_doubt : (sealed_ids old.core ≡ [] → ⊥) → old.doubted ≡ false
  no_doubt sealed = ⊎_elim (λ e. e) (λ none. absurd (sealed none)) sure

  pub refused_flush : Upholds w w' old.core new.core → (e : Error) → Flushes watermark (Err e) old.core new.core → FlushesAct watermark (Err e) w w' old new
  refused_flush commits CommitUnknown f opened start journal notes t is keeps next holds =
      let two = was_certain watermark (Err CommitUnknown) old.core new.core f (λ z. cc z) (λ z. cc z) in
      unknown_acts w w' old new (no_doubt two.0) two.1 doubt small commits.files opened start journal notes t is keeps next holds watermark (f.unknown refl) commits.passes
  refused_flush commits e f opened start journal notes t is keeps next holds = rest_acts w w' old new doubt commits opened journal notes t is keeps f.err (f.known (λ h. absurd (cc h)))

  pub installed_flush : (p b : ℕ × Registered) (mid : Core) → Flushes watermark (Ok (Some p)) old.core mid → new.core ≡ mid → UpholdsFiles w w' old.core new.core → PlainNumbersAreRead → Passed (log_from_of new.core) w w' → RemovesBehind w w' old.core new.core
      → FlushesAct watermark (Ok (Some b)) w w' old new
  installed_flush p b mid f same files read passed behind opened start journal notes t is keeps next holds =
      let two = was_certain watermark (Ok (Some p)) old.core mid f (λ z. cc z) (λ z. cc z) in
      installed_acts w w' old new (no_doubt two.0) two.1 doubt small files opened start journal notes t is keeps next holds watermark p.0 p.1 mid f.installs same read passed behind

  pub none_flush : Upholds w w' old.core new.core → Flushes watermark (Ok None) old.core new.core → FlushesAct watermark (Ok None) w w' old new
  none_flush commits f opened start journal notes t is keeps next holds = same_acts w w' old new doubt commits opened journal notes t is keeps (f.some refl).1
