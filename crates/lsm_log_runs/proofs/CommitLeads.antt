-- What a rotation, a flush after it, and a compaction lead to.
use Rattle.std.proofs.Common.{◌≡◌, ⊎_elim, inl, inr, ℕ, true, List, [], ◌∷◌, ◌++◌, append-nil, Option, Some, None, Result, Ok, Err, refl, sym, ap, subst}
use Rattle.std.specs.declared.ops.Bound.{Bound}
use Rattle.lsm_below.specs.Entries.{Entry}
use Rattle.lsm_below.specs.Keys.{Bytes}
use Rattle.lsm_below.specs.Ranges.{Range}
use Rattle.lsm_below.specs.declared.error.Error.{Error}
use Rattle.lsm_below.specs.declared.error.Error.TheVariants.{CommitUnknown, AfterCommit}
use Rattle.lsm_store.specs.World.{World, LeavesOnly}
use Rattle.lsm_model.specs.Journal.{Event}
use Rattle.lsm_model.specs.Steps.{Action, Rotated, Merged, Moved, DroppedTables, Marked, Maintained, StaysAt}
use Rattle.lsm_model.specs.Beginnings.{Note}
use Rattle.lsm_logged.specs.Levels.{SeenVersion}
use Rattle.lsm_commit.specs.Foreign.{AtRest}
use Rattle.lsm_commit.specs.Stored.{HoldsOneOf}
use Rattle.lsm_log_model.specs.Logs.{IsCertain, Act, Did, CommitLost}
use Rattle.lsm_log_model.specs.Records.{LogImage, logged, opened_by}
use Rattle.lsm_runs.specs.declared.steps.Reply.{Reply}
use Rattle.lsm_runs.specs.declared.steps.Reply.TheVariants.{Sealed, Flushed as FlushedReply, FlushedActive, RefusedActive, NoStrategy, SlotInUse, Refused}
use Rattle.lsm_pick.specs.declared.choice.Choice.{Choice}
use Rattle.lsm_runs.specs.Compacting.{reply_of}
use Rattle.lsm_runs.proofs.Drawing.{rotated_same}
use Rattle.lsm_runs.proofs.Resting.{Rests, rotated}
use Rattle.lsm_state.specs.Compactions.{Relation, levels_of}
use Rattle.lsm_state.specs.Dropping.{MayDropIds, DropsFrom}
use Rattle.lsm_state.specs.Core.{Core, state_of, versions_left}
use Rattle.lsm_state.specs.declared.compaction.Begun.{Begun}
use Rattle.lsm_state.specs.declared.compaction.Begun.TheVariants.{DidNothing, Declined, Installed, Job}
use Rattle.lsm_logged.specs.Acting.{LeadsBy, LeadsByCommit, LeadsByLost, LeadsByMark, IsCompaction, IsAnyCompaction, IsMerging, DropsWithin, told_by, told_installed, ActsByCompaction, CompactsBy}
use Rattle.lsm_logged.specs.Keeping.{SeenLogged}
use Rattle.lsm_log_runs.specs.Adds.{AddsRotation, AddsFlush, AddsFlushActive, IsDrop, AddsInstalled, AddsCompaction}
use Rattle.lsm_log_runs.specs.Doing.{ActsRotate, ActsFlush, ActsBehind, ActsFlushActive, ActsCompaction, ActsCompact}
use Rattle.lsm_log_runs.specs.Dropping.{ranges_within}
use Rattle.lsm_log_runs.specs.Images.{Keeps}
use Rattle.lsm_log_runs.specs.LoggedRuns.{SparesAnswers}
use Rattle.lsm_log_runs.specs.Pasts.{LogPast, acknowledged, with_commit, with_doubt, with_sealed}
use Rattle.lsm_log_runs.specs.Runs.{TakesRotate}
use Rattle.lsm_log_runs.specs.Standing.{StandsLogged}
use Rattle.lsm_log_runs.proofs.Advancing.{from_rest}
use Rattle.lsm_log_runs.proofs.Leading.{Reading, Stores, StepFiles, Led, nothing_stands, nothing_led, same_led}
use Rattle.lsm_log_runs.proofs.Exactly.{told_exactly}
use Rattle.lsm_log_runs.proofs.Orders.{order_marked, order_dropping, order_lost}
use Rattle.lsm_log_runs.proofs.Rotations.{rotates_stored}
use Rattle.lsm_log_runs.proofs.Sparing.{is_steady, FindsOn, found_on, spares_then}
use Rattle.lsm_log_runs.proofs.StepLeads.{LeadsOn, answered, fresh, holds, quiet_stands, quiet_spared, quietly, flush_leads}

-- ---- a rotation

module _ {S : Type 0} (world : S → World) (reading : Reading) (between : Stores world) (image : LogImage) (past : LogPast) (old new : SeenLogged S) (s : StandsLogged world image past old) where
  abbrev opened : List Entry
  opened = opened_by image

  pub rotated_stored : (id : Option ℕ) → TakesRotate (Sealed id) old new → StepFiles world old new
  rotated_stored id takes = record { stays = rotates_stored world old new id takes; makes = inl (rotated old.core id new.core takes.0).versions }

  -- over the store as it is now
  moved : (journal : List Event) (notes : List Note) (acts : List Act) → new.store ≡ old.store → LeadsBy opened journal notes s.log acts (world old.store) (world old.store) old new → LeadsBy opened journal notes s.log acts (world old.store) (world new.store) old new
  moved journal notes acts same l = subst (λ (x : S). LeadsBy opened journal notes s.log acts (world old.store) (world x) old new) (sym same) l

  abbrev behind : LogPast
  behind = with_sealed old.core.history.latest.active_memtable past

  abbrev sealing : List Act
  sealing = Did (Rotated old.core.next_memtable) ∷ []

  -- the rotation of this memtable
  sealed_by : (id : ℕ) → TakesRotate (Sealed (Some id)) old new → ActsRotate (Sealed (Some id)) (world old.store) old new → LeadsBy opened behind.journal behind.notes s.log sealing (world old.store) (world new.store) old new
  sealed_by id takes acts = moved behind.journal behind.notes sealing takes.1.store (acts opened (logged image) past.journal past.notes s.log s.is s.keeps s.next (holds world reading between image past old new s (rotated_stored (Some id) takes)))

  sealed_certain : (id : ℕ) (takes : TakesRotate (Sealed (Some id)) old new) (acts : ActsRotate (Sealed (Some id)) (world old.store) old new) → behind.known ≡ true → IsCertain (sealed_by id takes acts).log
  sealed_certain id takes acts known = answered opened s.log sealing (sealed_by id takes acts).log (tt, tt) (sealed_by id takes acts).done (s.came.certain known)

  -- each snapshot finds a super version where it found one
  rotation_finds : (id : Option ℕ) → TakesRotate (Sealed id) old new → FindsOn (state_of [] old.core) (state_of [] new.core)
  rotation_finds None takes = subst (λ (c : Core). FindsOn (state_of [] old.core) (state_of [] c)) (sym takes.0.1) (λ s sv f. (sv, f))
  rotation_finds (Some id) takes = found_on opened (state_of [] old.core) (Rotated old.core.next_memtable) (state_of [] new.core) refl (takes.0.3 opened [])

  same_spared : new.core ≡ old.core → SparesAnswers past past old.core new.core
  same_spared is = ([], sym (append-nil past.journal), λ n each. subst (λ (c : Core). StaysAt n (state_of [] old.core) (state_of [] c)) (sym is) (reading.theory.sound.spares.same n (state_of [] old.core) (state_of [] old.core) refl refl refl))

  -- what it leaves stands, and covers no less than before
  pub rotation_stands : (id : Option ℕ) → TakesRotate (Sealed id) old new → ActsRotate (Sealed id) (world old.store) old new
      → (next : LogPast) × AddsRotation (Sealed id) past next × (acknowledged next ≡ acknowledged past) × StandsLogged world image next new × SparesAnswers past next old.core new.core × FindsOn (state_of [] old.core) (state_of [] new.core)
  rotation_stands None takes acts = (
    past,
    refl,
    refl,
    nothing_stands world reading between image past old new s
        (moved past.journal past.notes [] takes.1.store (acts opened (logged image) past.journal past.notes s.log s.is s.keeps s.next (holds world reading between image past old new s (rotated_stored None takes)))) (rotated_stored None takes),
    same_spared takes.0.1,
    rotation_finds None takes,
  )
  rotation_stands (Some id) takes acts = (
    behind,
    ap (λ i. with_sealed i past) (sym takes.0.1),
    refl,
    quiet_stands world reading between image past old new s (rotated_stored (Some id) takes) behind sealing (tt, tt) (sealed_by id takes acts) refl refl s.came.order (sealed_certain id takes acts),
    quiet_spared world reading between image past old new s (rotated_stored (Some id) takes) behind sealing (tt, tt) (sealed_by id takes acts) refl refl s.came.order (sealed_certain id takes acts) tt,
    rotation_finds (Some id) takes,
  )

  module _ (rest : AtRest (world new.store)) where
    pub rotate_leads : (reply : Reply) → TakesRotate reply old new → ActsRotate reply (world old.store) old new → (next : LogPast) × AddsRotation reply past next × Led world reading between image past next old new
    rotate_leads (Sealed None) takes acts = (
      past,
      refl,
      nothing_led world reading between image past old new s
          (moved past.journal past.notes [] takes.1.store (acts opened (logged image) past.journal past.notes s.log s.is s.keeps s.next (holds world reading between image past old new s (rotated_stored None takes)))) (rotated_stored None takes) rest,
    )
    rotate_leads (Sealed (Some id)) takes acts = (
      behind,
      ap (λ i. with_sealed i past) (sym takes.0.1),
      quietly world reading between image past old new s (rotated_stored (Some id) takes) rest behind sealing (tt, tt) tt (sealed_by id takes acts) refl refl s.came.order (sealed_certain id takes acts),
    )
    rotate_leads (Refused x) takes acts = (past, refl, same_led world reading between image past old new s rest takes.0)
    rotate_leads reply takes acts = absurd takes

-- ---- a flush after it

module _ {S : Type 0} (world : S → World) (reading : Reading) (between : Stores world) (image : LogImage) (past : LogPast) (old new : SeenLogged S) (s : StandsLogged world image past old) (stored : StepFiles world old new) (rest : AtRest (world new.store)) where
  flushed_behind : (watermark : ℕ) (id : Option ℕ) (reply : Reply) → ActsBehind watermark id reply (world old.store) (world new.store) old new
      → (next : LogPast) × ((mid : LogPast) × AddsRotation (Sealed id) past mid × AddsFlush old.core.seqno watermark reply mid next) × Led world reading between image past next old new
  flushed_behind watermark id reply both =
      let mid = both.mid in
      let at = rotation_stands world reading between image past old mid s id both.rotates both.sealed in
      let same : mid.store ≡ old.store = both.rotates.1.store in
      let acts = subst (λ (x : S). ActsFlush watermark reply (world x) (world new.store) mid new) (sym same) both.flushes in
      let rests : Rests old.core mid.core = rotated old.core id mid.core both.rotates.0 in
      let files : StepFiles world mid new = record { stays = λ h. stored.stays s.stored; makes = from_rest old.core mid.core new.core rests stored.makes } in
      let led = flush_leads world reading between image at.0 mid new at.3 files rest watermark reply acts in (
        led.0,
        (at.0, at.1, subst (λ c. AddsFlush c watermark reply at.0 led.0) (rotated_same old.core id mid.core both.rotates.0) led.1),
        record {
          stands = led.2.stands;
          inside = subst (λ (x : S). LeavesOnly (world x) (world new.store) (Keeps (opened_by image) (logged image) led.0 (acknowledged past) new.core.seqno)) same (subst (λ n. LeavesOnly (world mid.store) (world new.store) (Keeps (opened_by image) (logged image) led.0 n new.core.seqno)) at.2 led.2.inside);
          then = led.2.then;
          versions = subst (λ (x : S). LeavesOnly (world x) (world new.store) (HoldsOneOf (versions_left old.core ++ versions_left new.core))) same (subst (λ (vs : List SeenVersion). LeavesOnly (world mid.store) (world new.store) (HoldsOneOf (vs ++ versions_left new.core))) rests.versions led.2.versions);
          spares = spares_then past at.0 led.0 old.core mid.core new.core at.4 at.5 led.2.spares;
        },
      )

  -- a rotation that is refused does nothing
  refused_rotation : (watermark : ℕ) (id : Option ℕ) (x : Error) → id ≡ None → TakesRotate (Refused x) old new → (next : LogPast) × ((mid : LogPast) × AddsRotation (Sealed id) past mid × AddsFlush old.core.seqno watermark (Refused x) mid next) × Led world reading between image past next old new
  refused_rotation watermark id x none takes =
      (past, (past, subst (λ i. AddsRotation (Sealed i) past past) (sym none) refl, ⊎_elim (λ e. subst (λ y. AddsFlush old.core.seqno watermark (Refused y) past past) (sym e) refl) (λ e. subst (λ y. AddsFlush old.core.seqno watermark (Refused y) past past) (sym e) refl) takes.1), same_led world reading between image past old new s rest takes.0)

  pub active_leads : (watermark : ℕ) (reply : Reply) → ActsFlushActive watermark reply (world old.store) (world new.store) old new → LeadsOn world reading between image past old new s stored (AddsFlushActive old.core.seqno watermark reply past)
  active_leads watermark (FlushedActive id a) acts = flushed_behind watermark id (FlushedReply a) acts
  active_leads watermark (RefusedActive id x) acts = ⊎_elim (λ r. refused_rotation watermark id x r.0 r.1) (λ both. flushed_behind watermark id (Refused x) both) acts
  active_leads watermark reply acts = absurd acts

  -- ---- a compaction

  abbrev opened_on : List Entry
  opened_on = opened_by image

  abbrev Leads : (LogPast → Type 0) → Type 0
  Leads = LeadsOn world reading between image past old new s stored

  steady : (watermark : ℕ) (action : Action) → IsAnyCompaction watermark action → is_steady action ≡ true
  steady watermark (Merged w d ids evict made) is = refl
  steady watermark (Moved d ids moved) is = refl
  steady watermark (DroppedTables ids) is = refl
  steady watermark other is = absurd is

  -- an action that is a compaction, and tells ranges that may be dropped
  module _ (Ranges : List Range → Type 0) where
    stood : (watermark : ℕ) (action : Action) → IsAnyCompaction watermark action → IsDrop Ranges old.core.seqno (told_by action old.core) → LeadsByCommit watermark action (told_installed action old.core) [] opened_on past.journal past.notes s.log (world old.store) (world new.store) old new
        → Leads (AddsInstalled Ranges old.core.seqno watermark past)
    stood watermark action is tells l =
        let drop = told_by action old.core in
        let acts : List Act = Did (Marked watermark) ∷ (Did action ∷ (Did (Maintained watermark) ∷ [])) in (
          with_commit watermark (told_installed action old.core) past,
          (drop, tells, refl),
          quietly world reading between image past old new s stored rest (with_commit watermark (told_installed action old.core) past) acts (tt, (tt, (tt, tt))) (refl, (steady watermark action is, tt)) l refl refl
              (order_dropping opened_on past.journal s.came.order Ranges watermark old.core.seqno drop tells (fresh world reading between image past old new s stored))
              (λ known. answered opened_on s.log acts l.log (tt, (tt, (tt, tt))) l.done (s.came.certain known)),
        )

    in_doubt : (watermark : ℕ) (action : Action) → IsDrop Ranges old.core.seqno (told_by action old.core) → LeadsByLost watermark action (told_by action old.core) opened_on past.journal past.notes s.log (world old.store) (world new.store) old new
        → Leads (AddsCompaction Ranges old.core.seqno watermark (Refused CommitUnknown) past)
    in_doubt watermark action tells l =
        let drop = told_by action old.core in (
          with_doubt watermark drop past,
          (drop, tells, refl),
          quietly world reading between image past old new s stored rest (with_doubt watermark drop past) (Did (Marked watermark) ∷ (CommitLost action l.0 ∷ [])) (tt, (tt, tt)) (refl, tt) l.1 refl refl
              (order_lost opened_on past.journal s.came.order Ranges watermark old.core.seqno drop tells) (λ known. absurd (cc known)),
        )

  marked : (watermark : ℕ) → LeadsByMark watermark (world old.store) (world new.store) old new opened_on past.journal past.notes s.log → Leads (λ next. next ≡ with_commit watermark [] past)
  marked watermark l =
      let acts : List Act = Did (Marked watermark) ∷ [] in (
        with_commit watermark [] past,
        refl,
        quietly world reading between image past old new s stored rest (with_commit watermark [] past) acts (tt, tt) tt l refl refl (order_marked opened_on past.journal s.came.order watermark)
            (λ known. answered opened_on s.log acts l.log (tt, tt) l.done (s.came.certain known)),
      )

  -- one whose actions are such
  module _ (May : Action → Type 0) (Ranges : List Range → Type 0) (watermark : ℕ) (are : (action : Action) → May action → IsAnyCompaction watermark action × IsDrop Ranges old.core.seqno (told_by action old.core)) where
    by_begun : (begun : Result Begun Error) → CompactsBy May watermark begun (world old.store) (world new.store) old new → Leads (AddsCompaction Ranges old.core.seqno watermark (reply_of begun) past)
    by_begun begun acts = go begun (acts opened_on (logged image) past.journal past.notes s.log s.is s.keeps s.next (holds world reading between image past old new s stored))
      where
        go : (begun : Result Begun Error) → ActsByCompaction May watermark begun (world old.store) (world new.store) old new opened_on past.journal past.notes s.log → Leads (AddsCompaction Ranges old.core.seqno watermark (reply_of begun) past)
        go (Ok Installed) a = let d = a.done (inl refl) in let is = are d.0 d.1 in stood Ranges watermark d.0 is.0 is.1 d.2
        go (Ok DidNothing) a = marked watermark (a.told (λ e. cc e))
        go (Ok (Declined why)) a = marked watermark (a.told (λ e. cc e))
        go (Ok (Job job)) a = marked watermark (a.told (λ e. cc e))
        go (Err AfterCommit) a = let d = a.done (inr refl) in let is = are d.0 d.1 in stood Ranges watermark d.0 is.0 is.1 d.2
        go (Err CommitUnknown) a = let d = a.lost refl in in_doubt Ranges watermark d.0 (are d.0 d.1).1 d.2
        go (Err x) a = marked watermark (a.refused (λ e. cc e) (λ e. cc e))

    compaction_leads : (reply : Reply) → ActsCompaction May watermark reply (world old.store) (world new.store) old new → Leads (AddsCompaction Ranges old.core.seqno watermark reply past)
    compaction_leads reply acts = subst (λ r. Leads (AddsCompaction Ranges old.core.seqno watermark r past)) (sym acts.1) (by_begun acts.0 acts.2)

  chosen_are : (may : Relation Choice) (watermark : ℕ) (action : Action) → IsCompaction (MayDropIds may old.core) watermark action → IsAnyCompaction watermark action × IsDrop (DropsFrom may old.core) old.core.seqno (told_by action old.core)
  chosen_are may watermark (Merged w d ids evict made) is = (is, tt)
  chosen_are may watermark (Moved d ids moved) is = (is, tt)
  chosen_are may watermark (DroppedTables ids) is = (tt, (refl, (ids, is, refl)))
  chosen_are may watermark other is = absurd is

  pub compact_leads : (may : Relation Choice) (watermark : ℕ) (reply : Reply) → ActsCompact may watermark reply (world old.store) (world new.store) old new → Leads (AddsCompaction (DropsFrom may old.core) old.core.seqno watermark reply past)
  compact_leads may watermark NoStrategy acts = (past, refl, same_led world reading between image past old new s rest acts)
  compact_leads may watermark SlotInUse acts = (past, refl, same_led world reading between image past old new s rest acts)
  compact_leads may watermark reply acts = compaction_leads (IsCompaction (MayDropIds may old.core) watermark) (DropsFrom may old.core) watermark (chosen_are may watermark) reply acts

  merges_are : (watermark : ℕ) (action : Action) → IsMerging watermark action → IsAnyCompaction watermark action × IsDrop (λ ranges. ⊥) old.core.seqno (told_by action old.core)
  merges_are watermark (Merged w d ids evict made) is = (is, tt)
  merges_are watermark other is = absurd is

  pub major_leads : (watermark : ℕ) (reply : Reply) → ActsCompaction (IsMerging watermark) watermark reply (world old.store) (world new.store) old new → Leads (AddsCompaction (λ ranges. ⊥) old.core.seqno watermark reply past)
  major_leads watermark reply acts = compaction_leads (IsMerging watermark) (λ ranges. ⊥) watermark (merges_are watermark) reply acts

  abbrev Within : Bound Bytes → Bound Bytes → List Range → Type 0
  Within low high ranges = ranges ≡ ranges_within low high (levels_of old.core)

  drops_are : (low high : Bound Bytes) (action : Action) → DropsWithin (record { start = low; end = high }) old.core action → IsAnyCompaction 0 action × IsDrop (Within low high) old.core.seqno (told_by action old.core)
  drops_are low high (DroppedTables ids) is = (tt, (refl, told_exactly (record { start = low; end = high }) ids (levels_of old.core) is.1 is.0))
  drops_are low high other is = absurd is

  pub drop_leads : (low high : Bound Bytes) (reply : Reply) → ActsCompaction (DropsWithin (record { start = low; end = high }) old.core) 0 reply (world old.store) (world new.store) old new → Leads (AddsCompaction (Within low high) old.core.seqno 0 reply past)
  drop_leads low high reply acts = compaction_leads (DropsWithin (record { start = low; end = high }) old.core) (Within low high) 0 (drops_are low high) reply acts
