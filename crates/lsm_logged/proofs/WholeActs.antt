-- Compactions in one call of a logged tree are acts of the theory.
use Rattle.std.specs.Bool.{MatchBool}
use Rattle.std.proofs.Common.{◌≡◌, ◌⊎◌, ⊎_elim, inl, inr, ℕ, ◌+◌, ◌<◌, ◌≤◌, ◌^◌, true, false, Bool, List, Option, Some, None, IsSome, Result, Ok, Err, IsErrOf, refl, sym, ap, ◌∙◌, subst, arith}
use Rattle.lsm_below.specs.declared.error.Error.{Error}
use Rattle.lsm_below.specs.declared.error.Error.TheVariants.{OutOfMemory, CommitUnknown, Unrecoverable, AfterCommit}
use Rattle.lsm_compaction.specs.Merges.{SeenCompaction}
use Rattle.lsm_pick.specs.declared.bounds.OwnedBounds.{OwnedBounds}
use Rattle.lsm_pick.specs.declared.choice.Choice.{Choice}
use Rattle.lsm_pick.specs.declared.choice.Choice.TheVariants.{DoNothing, Move, Merge, Drop}
use Rattle.lsm_pick.specs.declared.choice.ChooseError.{ChooseError}
use Rattle.lsm_pick.specs.Picks.{IsNothing, IsMerge, IsDrop}
use Rattle.lsm_pick.specs.Simple.{are_reversed, bounded}
use Rattle.lsm_pick.specs.Tables.{is_any_hidden}
use Rattle.lsm_model.specs.Steps.{Action, Merged, DroppedTables}
use Rattle.lsm_tables.specs.Tables.{SeenTable}
use Rattle.lsm_versions.specs.Levels.{SeenVersion, all_of}
use Rattle.lsm_state.specs.declared.compaction.Options.{Options}
use Rattle.lsm_state.specs.declared.compaction.Begun.{Begun}
use Rattle.lsm_state.specs.declared.compaction.Begun.TheVariants.{DidNothing, Declined, Installed, Job}
use Rattle.lsm_state.specs.declared.compaction.Finished.{Finished}
use Rattle.lsm_state.specs.declared.compaction.Finished.TheVariants.{Declined as Over, Installed as Whole}
use Rattle.lsm_below.specs.Numbers.{PlainNumbersAreRead}
use Rattle.lsm_store.specs.World.{World}
use Rattle.lsm_state.specs.Commits.{Upholds}
use Rattle.lsm_state.specs.Core.{Core, Seen, written_of}
use Rattle.lsm_state.specs.FlushLaws.{FlushesAreDeeds}
use Rattle.lsm_state.specs.Kept.{IsKeptTree}
use Rattle.lsm_state.specs.Deeds.{HasOrder, IsMarkDeed}
use Rattle.lsm_state.specs.Compactions.{Relation, MayAnswer, Does, BeginsChoice, Finishes, Spends, job_for, levels_of}
use Rattle.lsm_state.specs.Dropping.{IsDropOf, MayDropIds}
use Rattle.lsm_state.specs.CompactionDeeds.{ChoiceDeeds, merge_of, MergeDeeds, CompactionsAreDeeds}
use Rattle.lsm_state.specs.WholeCompactions.{told_end, Completes, Follows, CompactsChoice, Compacts, DropsRange, options_at, only_memory, major_choice, drop_choice}
use Rattle.lsm_state.proofs.Distinct.{own_behind}
use Rattle.lsm_logged.specs.Acting.{IsCompaction, IsAnyCompaction, IsMerging, DropsWithin, CompactsAct}
use Rattle.lsm_logged.specs.Keeping.{SeenLogged}
use Rattle.lsm_logged.proofs.Seen.{logged_with}
use Rattle.lsm_logged.specs.Removing.{log_from_of}
use Rattle.lsm_logged.proofs.Compacted.{StaysMarked, Installs, Doubts, Outcome, Allows, choice_allowed, chosen_allowed, IsFree, Stays, stays_same, choice_outcome, begun_outcome, quiet_outcome, same_marked, was_free, ok_of, answered_acts}
use Rattle.lsm_logged.proofs.Merged.{IsOver, is_in, in_doubt, over, merged_done, merged_lost, mark_alone}
use Rattle.lsm_logged.proofs.RegisterActs.{was_certain}
use Rattle.lsm_logged.proofs.Rising.{finishes, spends}

-- ---- a merge that was begun

-- what is known of its job, and of the tree where it is open
pub record IsBegunFor (May : Action → Type 0) (w : ℕ) (job : SeenCompaction) (old mid : Core) : Type 0 where
  pub may : (run : List SeenTable) → May (merge_of job run)
  pub watermark : job.settings.watermark ≡ w
  pub certain : old.lost ≡ None
  pub number : mid.seqno ≡ old.seqno
  pub order : HasOrder old → HasOrder mid
  pub stays : Stays old mid

job_is : (x y : SeenCompaction) → ok_of (Job x) ≡ ok_of (Job y) → x ≡ y
job_is x y e = cc e

begun_for : (May : Action → Type 0) (choice : Choice) (o : Options) → Allows May o.mvcc_gc_watermark choice → (job : SeenCompaction) (old mid : Core) → BeginsChoice choice o (Ok (Job job)) old mid → ChoiceDeeds choice o.mvcc_gc_watermark (Ok (Job job)) old mid → IsBegunFor May o.mvcc_gc_watermark job old mid
begun_for May choice o may job old mid begins deeds =
    let certain = was_certain {T = Begun} (Ok (Job job)) old (λ k. cc k) begins.unrecoverable.1 in
    by_choice certain choice may (was_free choice o (Ok (Job job)) old mid begins deeds certain (λ why k. ⊎_elim (λ d. cc d) (λ d. cc d) k))
  where
    by_choice : old.lost ≡ None → (choice : Choice) → Allows May o.mvcc_gc_watermark choice → Does choice o (Ok (Job job)) old mid → IsBegunFor May o.mvcc_gc_watermark job old mid
    by_choice certain DoNothing may d = let z = d.0 in absurd (cc z)
    by_choice certain (Move input) may d = let z = d.ok in absurd (cc z)
    by_choice certain (Merge input) may d =
        let same : job ≡ job_for input o old = job_is job (job_for input o old) (ap (λ (b : Begun). ok_of b) d.job) in
        let at = ap (λ (j : SeenCompaction). j.settings.watermark) same in
        record {
          may = λ run. may job run at;
          watermark = at;
          certain = certain;
          number = ap (λ (c : Core). c.seqno) d.ok;
          order = λ order. subst HasOrder (sym d.ok) order;
          stays = (ap log_from_of d.ok, ap (λ (c : Core). c.lost) d.ok);
        }
    by_choice certain (Drop ids) may d = let z = d.ok in absurd (cc z)

-- ---- what follows

-- of an answer and a tree that are the same
same_outcome : {May : Action → Type 0} (w : ℕ) (x y : Result Begun Error) (old mid new : Core) → y ≡ x → new ≡ mid → Outcome May w x old mid → Outcome May w y old new
same_outcome {May} w x y old mid new same tree o = subst (λ z. Outcome May w z old new) (sym same) (subst (Outcome May w x old) (sym tree) o)

no_job : (job : SeenCompaction) → ok_of (Job job) ≡ ok_of Installed → ⊥
no_job job e = cc e

job_installed : (job : SeenCompaction) → Job job ≡ Installed → ⊥
job_installed job e = cc e

ended_free : (end : Result Finished Error) → IsOver end → IsFree (told_end end)
ended_free (Ok Whole) free = absurd (free.0 refl)
ended_free (Ok (Over why)) free = ((λ z. cc z), (λ z. cc z), (λ z. cc z))
ended_free (Err e) free = ((λ z. cc z), (λ z. free.1 (err_in e AfterCommit z)), (λ z. free.2 (err_in e CommitUnknown z)))
  where
    err_in : (x y : Error) → IsErrOf {T = Begun} (Err x) y → IsErrOf {T = Finished} (Err x) y
    err_in x y e = cc e

module _ (May : Action → Type 0) (job : SeenCompaction) (old mid new : Core) (marks : StaysMarked job.settings.watermark old mid) (known : IsBegunFor May job.settings.watermark job old mid) where
  abbrev w : ℕ
  w = job.settings.watermark

  quiet : (r : Result Begun Error) → IsFree r → mid.seqno ≤ new.seqno → Stays mid new → IsMarkDeed w old new → Outcome May w r old new
  quiet r free rises same deed = quiet_outcome w r old new free (deed, (let a = marks.1 in omega (arith, a, rises)), same.0 ∙ marks.2, same.1 ∙ marks.3)

  installs : (end : Result Finished Error) → Finishes job end mid new → MergeDeeds job end mid new → (end ≡ Ok Whole) ⊎ IsErrOf end AfterCommit → Installs May w old new
  installs end ends deeds h =
      let i = is_in job end mid new ends h in
      let deed = deeds.done h in
      record {
        action = merge_of job deed.0;
        may = known.may deed.0;
        certain = known.certain;
        deeds = merged_done job old mid new marks.0 known.number known.order deed;
        counter = i.counter ∙ ap (λ k. k + 1) known.number;
        lost = i.lost;
        from = i.from ∙ marks.2;
      }

  doubts : (end : Result Finished Error) → Finishes job end mid new → MergeDeeds job end mid new → IsErrOf end CommitUnknown → Doubts May w old new
  doubts end ends deeds u =
      let i = in_doubt job end mid new ends u in
      let deed = deeds.lost u in
      record {
        action = merge_of job deed.0;
        may = known.may deed.0;
        certain = known.certain;
        would = deed.1;
        v = i.v;
        deeds = merged_lost job old mid new marks.0 known.number known.order deed;
        counter = i.counter ∙ ap (λ k. k + 1) known.number;
        lost = i.lost;
        version = i.version ∙ marks.2;
        from = i.from ∙ marks.2;
      }

  over_outcome : (end : Result Finished Error) → Finishes job end mid new → IsOver end → IsMarkDeed w old new → Outcome May w (told_end end) old new
  over_outcome end ends free deed = quiet (told_end end) (ended_free end free) (finishes job end mid new ends) (over job end mid new ends free) deed

  end_outcome : (end : Result Finished Error) → Finishes job end mid new → MergeDeeds job end mid new → Outcome May w (told_end end) old new
  end_outcome (Ok Whole) ends deeds = record { done = λ h. installs (Ok Whole) ends deeds (inl refl); lost = λ h. absurd (cc h); told = λ isnt. absurd (isnt refl); refused = tt }
  end_outcome (Ok (Over why)) ends deeds = over_outcome (Ok (Over why)) ends ((λ z. cc z), (λ z. cc z), (λ z. cc z)) (mark_alone job old mid new marks.0 known.number known.order (deeds.told (λ z. cc z)))
  end_outcome (Err e) ends deeds = record {
    done = λ h. ⊎_elim (λ z. absurd (cc z)) (λ a. installs (Err e) ends deeds (inr (err_in e AfterCommit a))) h;
    lost = λ u. doubts (Err e) ends deeds (err_in e CommitUnknown u);
    told = tt;
    refused = λ a u.
        let free : IsOver (Err e) = ((λ z. cc z), (λ z. a (err_is e AfterCommit z)), (λ z. u (err_is e CommitUnknown z))) in
        let same = over job (Err e) mid new ends free in
        let rises = finishes job (Err e) mid new ends in
        let first = marks.1 in
        (mark_alone job old mid new marks.0 known.number known.order (deeds.refused a u), omega (arith, first, rises), same.0 ∙ marks.2, same.1 ∙ marks.3);
  }
    where
      err_in : (x y : Error) → IsErrOf {T = Begun} (Err x) y → IsErrOf {T = Finished} (Err x) y
      err_in x y e = cc e

      err_is : (x y : Error) → IsErrOf {T = Finished} (Err x) y → x ≡ y
      err_is x y e = cc e

  completed : (r : Result Begun Error) → Completes job r mid new → Outcome May w r old new
  completed r c = ⊎_elim
      (λ s. subst (λ x. Outcome May w x old new) (sym s.0) (quiet (Err OutOfMemory) ((λ z. cc z), (λ z. cc z), (λ z. cc z)) (spends job mid new s.1) (spent_stays s.1) (mark_alone job old mid new marks.0 known.number known.order s.2)))
      (λ e. subst (λ x. Outcome May w x old new) (sym e.3) (end_outcome e.0 e.1 e.2))
      c
    where
      spent_stays : Spends job mid new → Stays mid new
      spent_stays s = ⊎_elim (λ c. (ap log_from_of c.1, ap (λ (k : Core). k.lost) c.1)) (λ c. stays_same mid new c.1) s

followed : (May : Action → Type 0) (w : ℕ) (begun r : Result Begun Error) (old mid new : Core) → Outcome May w begun old mid → ((job : SeenCompaction) → begun ≡ Ok (Job job) → IsBegunFor May w job old mid) → Follows begun r mid new → Outcome May w r old new
followed May w (Ok DidNothing) r old mid new o jobs f = same_outcome w (Ok DidNothing) r old mid new f.0 f.1 o
followed May w (Ok (Declined why)) r old mid new o jobs f = same_outcome w (Ok (Declined why)) r old mid new f.0 f.1 o
followed May w (Ok Installed) r old mid new o jobs f = same_outcome w (Ok Installed) r old mid new f.0 f.1 o
followed May w (Ok (Job job)) r old mid new o jobs f =
    let known = jobs job refl in
    let mark = o.told (job_installed job) in
    subst (λ k. Outcome May k r old new) known.watermark
    (completed May job old mid new (subst (λ k. StaysMarked k old mid) (sym known.watermark) mark) (record { may = known.may; watermark = refl; certain = known.certain; number = known.number; order = known.order; stays = known.stays }) r f)
followed May w (Err e) r old mid new o jobs f = same_outcome w (Err e) r old mid new f.0 f.1 o

-- ---- calls

jobs_of : (May : Action → Type 0) (choice : Choice) (o : Options) → Allows May o.mvcc_gc_watermark choice → (begun : Result Begun Error) (old mid : Core) → BeginsChoice choice o begun old mid → ChoiceDeeds choice o.mvcc_gc_watermark begun old mid
    → (job : SeenCompaction) → begun ≡ Ok (Job job) → IsBegunFor May o.mvcc_gc_watermark job old mid
jobs_of May choice o may begun old mid begins deeds job e = begun_for May choice o may job old mid (subst (λ x. BeginsChoice choice o x old mid) e begins) (subst (λ x. ChoiceDeeds choice o.mvcc_gc_watermark x old mid) e deeds)

pub compacts_choice_outcome : (choice : Choice) (o : Options) (r : Result Begun Error) (old new : Core) → CompactsChoice choice o r old new → Outcome (IsCompaction (IsDropOf choice) o.mvcc_gc_watermark) o.mvcc_gc_watermark r old new
compacts_choice_outcome choice o r old new c =
    let w = o.mvcc_gc_watermark in
    let may = choice_allowed w choice in
    followed (IsCompaction (IsDropOf choice) w) w c.begun r old c.mid new (choice_outcome (IsCompaction (IsDropOf choice) w) choice o may c.begun old c.mid c.begins c.deeds)
    (jobs_of (IsCompaction (IsDropOf choice) w) choice o may c.begun old c.mid c.begins c.deeds) c.follows

no_begun : (e : Error) (job : SeenCompaction) → Err e ≡ ok_of (Job job) → ⊥
no_begun e job z = cc z

-- of a strategy all of whose choices are allowed
compacts_as : (May : Action → Type 0) (may_choose : Relation Choice) (may_refuse : Relation ChooseError) (o : Options) (r : Result Begun Error) (old new : Core) → ((choice : Choice) → MayAnswer may_choose old choice → Allows May o.mvcc_gc_watermark choice)
    → CompactionsAreDeeds → IsKeptTree old → IsMarkDeed o.mvcc_gc_watermark old old → Compacts may_choose may_refuse o r old new → Outcome May o.mvcc_gc_watermark r old new
compacts_as May may_choose may_refuse o r old new may law kept deed c =
    followed May o.mvcc_gc_watermark c.begun r old c.mid new (begun_outcome May may_choose may_refuse o c.begun old c.mid may law kept deed c.begins) jobs c.follows
  where
    jobs : (job : SeenCompaction) → c.begun ≡ Ok (Job job) → IsBegunFor May o.mvcc_gc_watermark job old c.mid
    jobs job e =
        let certain = was_certain {T = Begun} c.begun old (λ k. let z : Err Unrecoverable ≡ ok_of (Job job) = sym k ∙ e in no_begun Unrecoverable job z) c.begins.unrecoverable.1 in
        ⊎_elim
        (λ b. jobs_of May b.0 o (may b.0 b.1) c.begun old c.mid b.2 (law.choices b.0 o c.begun old c.mid kept b.2) job e)
        (λ b. absurd (no_begun _ job (sym b.2 ∙ e)))
        (c.begins.chosen certain)

pub compacts_outcome : (may_choose : Relation Choice) (may_refuse : Relation ChooseError) (o : Options) (r : Result Begun Error) (old new : Core) → CompactionsAreDeeds → IsKeptTree old → IsMarkDeed o.mvcc_gc_watermark old old → Compacts may_choose may_refuse o r old new → Outcome (IsCompaction (MayDropIds may_choose old) o.mvcc_gc_watermark) o.mvcc_gc_watermark r old new
compacts_outcome may_choose may_refuse o r old new = compacts_as (IsCompaction (MayDropIds may_choose old) o.mvcc_gc_watermark) may_choose may_refuse o r old new (chosen_allowed may_choose o.mvcc_gc_watermark old)

-- so as acts of the theory
pub compacted_acts : {S : Type 0} {may_choose : Relation Choice} {may_refuse : Relation ChooseError} (o : Options) (world : S → World) (tree mid : Seen S) (numbers : List ℕ) (doubted : Bool) (now : SeenLogged S) → logged_with tree numbers doubted ≡ now → IsKeptTree now.core → now.core.seqno < 2 ^ 64 → PlainNumbersAreRead → doubted ≡ false
    → Upholds (world tree.store) (world mid.store) tree.core mid.core → (r : Result Begun Error) → CompactionsAreDeeds → FlushesAreDeeds → Compacts may_choose may_refuse o r tree.core mid.core → CompactsAct (MayDropIds may_choose now.core) o.mvcc_gc_watermark r (world now.store) (world mid.store) now (logged_with mid numbers doubted)
compacted_acts {may_choose = may} {may_refuse = refuse} o world tree mid numbers doubted now same kept small read sure commits r law flushes compacts =
    answered_acts (MayDropIds may) o.mvcc_gc_watermark world tree mid numbers doubted now same kept small read sure commits r
    (λ here. compacts_outcome may refuse o r tree.core mid.core law here (flushes.spends o.mvcc_gc_watermark 0 tree.core here) compacts)

-- ---- a merge of all tables

pub merging_only : (w : ℕ) (action : Action) → IsMerging w action → IsAnyCompaction w action
merging_only w (Merged k d ids evict made) is = is
merging_only w action is = absurd is

major_allowed : (target w : ℕ) (c : Core) (choice : Choice) → MayAnswer (major_choice target) c choice → Allows (IsMerging w) w choice
major_allowed target w c choice may = by_hidden (is_any_hidden may.0 (all_of (levels_of c))) choice may.2
  where
    by_hidden : (hidden : Bool) (choice : Choice) → MatchBool hidden (IsNothing choice) (IsMerge choice (all_of (levels_of c)) 6 6 target) → Allows (IsMerging w) w choice
    by_hidden hidden DoNothing is = tt
    by_hidden hidden (Merge input) is = λ job run at. at
    by_hidden true (Move input) is = absurd is
    by_hidden false (Move input) is = absurd is
    by_hidden true (Drop ids) is = absurd is
    by_hidden false (Drop ids) is = absurd is

pub major_outcome : (target w : ℕ) (r : Result Begun Error) (old new : Core) → CompactionsAreDeeds → IsKeptTree old → IsMarkDeed w old old → Compacts (major_choice target) only_memory (options_at w old) r old new → Outcome (IsMerging w) w r old new
major_outcome target w r old new = compacts_as (IsMerging w) (major_choice target) only_memory (options_at w old) r old new (major_allowed target w old)

-- ---- a drop of tables

pub dropping_only : (bounds : OwnedBounds) (c : Core) (action : Action) → DropsWithin bounds c action → IsAnyCompaction 0 action
dropping_only bounds c (DroppedTables ids) is = tt
dropping_only bounds c action is = absurd is

drop_allowed : (bounds : OwnedBounds) (c : Core) → IsKeptTree c → (choice : Choice) → MayAnswer (drop_choice bounds) c choice → Allows (DropsWithin bounds c) 0 choice
drop_allowed bounds c kept choice may = by_hidden (is_any_hidden may.0 (bounded bounds (levels_of c))) choice may.2
  where
    by_hidden : (hidden : Bool) (choice : Choice) → MatchBool hidden (IsNothing choice) (IsDrop choice (bounded bounds (levels_of c))) → Allows (DropsWithin bounds c) 0 choice
    by_hidden hidden DoNothing is = tt
    by_hidden false (Drop ids) is = (is, own_behind (written_of c) (all_of (levels_of c)) kept.tables.own_ids)
    by_hidden true (Drop ids) is = absurd is
    by_hidden true (Move input) is = absurd is
    by_hidden false (Move input) is = absurd is
    by_hidden true (Merge input) is = absurd is
    by_hidden false (Merge input) is = absurd is

pub drops_outcome : (bounds : OwnedBounds) (r : Result Begun Error) (old new : Core) → CompactionsAreDeeds → IsKeptTree old → IsMarkDeed 0 old old → DropsRange bounds r old new → Outcome (DropsWithin bounds old) 0 r old new
drops_outcome bounds r old new law kept deed d = by_lost old.lost refl
  where
    nothing : (x : Result Begun Error) → IsFree x → r ≡ x → new ≡ old → Outcome (DropsWithin bounds old) 0 r old new
    nothing x free is same = subst (λ y. Outcome (DropsWithin bounds old) 0 y old new) (sym is) (quiet_outcome 0 x old new free (same_marked 0 old new deed same))

    by_order : old.lost ≡ None → (b : Bool) → are_reversed bounds ≡ b → Outcome (DropsWithin bounds old) 0 r old new
    by_order certain true is = let e = d.reversed certain is in nothing (Ok DidNothing) ((λ z. cc z), (λ z. cc z), (λ z. cc z)) e.0 e.1
    by_order certain false is = compacts_as (DropsWithin bounds old) (drop_choice bounds) only_memory (options_at 0 old) r old new (drop_allowed bounds old kept) law kept deed (d.drops certain is)

    by_lost : (l : Option SeenVersion) → old.lost ≡ l → Outcome (DropsWithin bounds old) 0 r old new
    by_lost None is = by_order is (are_reversed bounds) refl
    by_lost (Some v) is = let e = d.uncertain (subst (λ (p : Option SeenVersion). IsSome p) (sym is) refl) in nothing (Err Unrecoverable) ((λ z. cc z), (λ z. cc z), (λ z. cc z)) e.0 e.1
