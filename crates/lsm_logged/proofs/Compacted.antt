-- What a compaction did to a tree, as acts of the theory.
use Rattle.std.proofs.Common.{◌≡◌, ◌⊎◌, ⊎_elim, inl, inr, ℕ, ◌+◌, ◌<◌, ◌≤◌, ◌^◌, max, Bool, true, false, List, [], ◌∷◌, ◌++◌, Option, Some, None, IsSome, Result, Ok, Err, IfOk, IfErr, IsErrOf, refl, sym, ap, ◌∙◌, subst, arith}
use Rattle.lsm_below.specs.Entries.{Entry}
use Rattle.lsm_below.specs.Numbers.{PlainNumbersAreRead}
use Rattle.lsm_below.specs.declared.error.Error.{Error}
use Rattle.lsm_below.specs.declared.error.Error.TheVariants.{OutOfMemory, CommitUnknown, Unrecoverable, AfterCommit}
use Rattle.lsm_checks.specs.declared.choice.Why.{Why}
use Rattle.lsm_pick.specs.declared.choice.ChooseError.{ChooseError}
use Rattle.lsm_pick.specs.declared.choice.ChooseError.TheVariants.{OutOfMemory as NoMemory, NotDisjoint as Several, Busy as InUse, Refused}
use Rattle.lsm_pick.specs.declared.choice.Choice.{Choice}
use Rattle.lsm_pick.specs.declared.choice.Choice.TheVariants.{DoNothing, Move, Merge, Drop}
use Rattle.lsm_store.specs.World.{World}
use Rattle.lsm_model.specs.Journal.{Event, Map}
use Rattle.lsm_model.specs.Sound.{Holds}
use Rattle.lsm_model.specs.Steps.{State, Action, Wrote, Rotated, Flushed, Merged, Moved, DroppedTables, Cleared, Marked, LostDrop, Asked, Maintained}
use Rattle.lsm_model.specs.Beginnings.{Note, Saved, Done, Deeds}
use Rattle.lsm_model.specs.declared.journal.JournalEntry.TheVariants.{Mark}
use Rattle.lsm_tables.specs.Tables.{SeenTable}
use Rattle.lsm_versions.specs.Levels.{SeenVersion, placed_in}
use Rattle.lsm_compaction.specs.Merges.{SeenCompaction}
use Rattle.lsm_parts.specs.declared.version.super_version.SuperVersion.{SuperVersion}
use Rattle.lsm_log_model.specs.Logs.{Logged as Log, MayBeDrawn, is_write, next_from, Did, did}
use Rattle.lsm_state.specs.declared.compaction.Options.{Options}
use Rattle.lsm_state.specs.declared.compaction.Begun.{Begun}
use Rattle.lsm_state.specs.declared.compaction.Begun.TheVariants.{Declined, Installed}
use Rattle.lsm_state.specs.Core.{Core, Seen}
use Rattle.lsm_state.specs.Kept.{IsKeptTree}
use Rattle.lsm_state.specs.FlushLaws.{FlushesAreDeeds}
use Rattle.lsm_state.specs.Commits.{Upholds, counted}
use Rattle.lsm_state.specs.Deeds.{saved_of, IsMarkDeed, AreDone}
use Rattle.lsm_state.specs.Settling.{SettlesSome, IsInstalled, IsDoubted}
use Rattle.lsm_state.specs.Compactions.{Relation, MayAnswer, Does, BeginsChoice, BeginsCompaction, InstallsChoice, reason_of, error_of}
use Rattle.lsm_state.specs.Dropping.{IsDropOf, MayDropIds}
use Rattle.lsm_state.specs.CompactionDeeds.{AreLostTelling, merge_of, IsChoiceDeed, IsLostChoice, ChoiceDeeds, CompactionsAreDeeds}
use Rattle.lsm_logged.specs.Keeping.{SeenLogged, IsLogOf, KeepsLog}
use Rattle.lsm_logged.specs.Removing.{log_from_of}
use Rattle.lsm_logged.specs.Acting.{IsCompaction, IsAnyCompaction, told_by, told_installed, LeadsByCommit, LeadsByLost, LeadsByMark, ActsByCompaction, CompactsBy, CompactsAct}
use Rattle.lsm_logged.proofs.Led.{is_install, first, stop, leads_passing}
use Rattle.lsm_logged.proofs.CommitActs.{commit_leads, lost_leads}
use Rattle.lsm_logged.proofs.Removals.{passes_on, none_behind}
use Rattle.lsm_logged.proofs.Rising.{begins_choice}
use Rattle.lsm_logged.proofs.Seen.{logged_with}

-- ---- what it did

-- the mark, and no version
abbrev pub StaysMarked : ℕ → Core → Core → Type 0
StaysMarked w old new = IsMarkDeed w old new × (old.seqno ≤ new.seqno) × (log_from_of new ≡ log_from_of old) × (new.lost ≡ old.lost)

-- an action that may be, installed
pub record Installs (May : Action → Type 0) (w : ℕ) (old new : Core) : Type 0 where
  pub action : Action
  pub may : May action
  pub certain : old.lost ≡ None
  pub deeds : AreDone w action (told_installed action old) [] old new
  pub counter : new.seqno ≡ old.seqno + 1
  pub lost : new.lost ≡ None
  pub from : log_from_of new ≡ log_from_of old

pub record Doubts (May : Action → Type 0) (w : ℕ) (old new : Core) : Type 0 where
  pub action : Action
  pub may : May action
  pub certain : old.lost ≡ None
  pub would : Core
  pub v : SeenVersion
  pub deeds : AreLostTelling w action (told_by action old) (told_installed action old) old would new
  pub counter : new.seqno ≡ old.seqno + 1
  pub lost : new.lost ≡ Some v
  pub version : v.log_from ≡ log_from_of old
  pub from : log_from_of new ≡ log_from_of old

pub record Outcome (May : Action → Type 0) (w : ℕ) (r : Result Begun Error) (old new : Core) : Type 0 where
  pub done : (r ≡ Ok Installed) ⊎ IsErrOf r AfterCommit → Installs May w old new
  pub lost : IsErrOf r CommitUnknown → Doubts May w old new
  pub told : IfOk r (λ b. (b ≡ Installed → ⊥) → StaysMarked w old new)
  pub refused : IfErr r (λ e. (e ≡ AfterCommit → ⊥) → (e ≡ CommitUnknown → ⊥) → StaysMarked w old new)

-- what a choice leads to may be
abbrev pub Allows : (Action → Type 0) → ℕ → Choice → Type 0
Allows May w DoNothing = Unit {0}
Allows May w (Move input) = (run : List SeenTable) → May (Moved input.dest_level input.table_ids.keys (placed_in input.dest_level run))
Allows May w (Merge input) = (job : SeenCompaction) (run : List SeenTable) → job.settings.watermark ≡ w → May (merge_of job run)
Allows May w (Drop ids) = May (DroppedTables ids.keys)

-- a choice drops just its own tables, and so those that the strategy that made it may drop
pub choice_allowed : (w : ℕ) (choice : Choice) → Allows (IsCompaction (IsDropOf choice) w) w choice
choice_allowed w DoNothing = tt
choice_allowed w (Move input) = λ run. tt
choice_allowed w (Merge input) = λ job run at. at
choice_allowed w (Drop ids) = refl

pub chosen_allowed : (may : Relation Choice) (w : ℕ) (c : Core) (choice : Choice) → MayAnswer may c choice → Allows (IsCompaction (MayDropIds may c) w) w choice
chosen_allowed may w c DoNothing is = tt
chosen_allowed may w c (Move input) is = λ run. tt
chosen_allowed may w c (Merge input) is = λ job run at. at
chosen_allowed may w c (Drop ids) is = (Drop ids, is, refl)

any_of : (May : List ℕ → Type 0) (w : ℕ) (action : Action) → IsCompaction May w action → IsAnyCompaction w action
any_of May w (Merged k d ids evict made) is = is
any_of May w (Moved d ids moved) is = tt
any_of May w (DroppedTables ids) is = tt
any_of May w action is = absurd is

-- ---- as acts

-- a compaction leaves from where a log is read
compaction_facts : (w : ℕ) (action : Action) → IsAnyCompaction w action → (is_write action ≡ false) × (is_install action ≡ true) × ((x : State) (from : ℕ) → next_from x from action ≡ from)
compaction_facts w (Wrote e) is = absurd is
compaction_facts w (Rotated a) is = absurd is
compaction_facts w (Flushed k job made) is = absurd is
compaction_facts w (Merged k d ids evict made) is = (refl, refl, λ x from. refl)
compaction_facts w (Moved d ids moved) is = (refl, refl, λ x from. refl)
compaction_facts w (DroppedTables ids) is = (refl, refl, λ x from. refl)
compaction_facts w (Cleared n a) is = absurd is
compaction_facts w (Marked k) is = absurd is
compaction_facts w (LostDrop ranges n) is = absurd is
compaction_facts w (Asked at question) is = absurd is
compaction_facts w (Maintained k) is = absurd is

module _ {S : Type 0} (watermark : ℕ) (w w' : World) (old new : SeenLogged S) (doubt : new.doubted ≡ old.doubted) (commits : Upholds w w' old.core new.core)
    (opened : List Entry) (start : Map) (journal : List Event) (notes : List Note) (t : Log) (is : IsLogOf journal notes old.core old.doubted t) (keeps : KeepsLog w t) (next : MayBeDrawn opened t old.core.seqno) (holds : Holds opened start t.tree.state) where
  mark_leads : StaysMarked watermark old.core new.core → LeadsByMark watermark w w' old new opened journal notes t
  mark_leads m =
      let journal' = journal ++ Mark watermark ∷ [] in
      let tree : Saved = saved_of journal' notes new.core in
      let d = subst (λ (s : Saved). Deeds opened s (Done (Marked watermark) ∷ []) tree) (sym is.tree) (m.0 opened journal notes) in
      let l = first opened t (Marked watermark) d.0 [] tree t.log_from t.other_from new.core.seqno ⊥ refl (λ q. absurd (cc q)) d.1 (omega arith) (stop opened (did t (Marked watermark) d.0) tree new.core.seqno ⊥ (sym d.2) (λ no. absurd no)) in
      leads_passing opened journal notes t w w' old new is keeps commits.files doubt commits.passes journal' notes (Did (Marked watermark) ∷ []) t.log_from t.other_from ⊥ l (omega arith) (is.from ∙ sym m.2) (λ v h. is.other v (sym m.3 ∙ h)) m.1

  module _ (May : Action → Type 0) (only : (action : Action) → May action → IsAnyCompaction watermark action) (sure : old.doubted ≡ false) (small : old.core.seqno < 2 ^ 64) (read : PlainNumbersAreRead) where
    install_leads : (i : Installs May watermark old.core new.core) → LeadsByCommit watermark i.action (told_installed i.action old.core) [] opened journal notes t w w' old new
    install_leads i =
        let facts = compaction_facts watermark i.action (only i.action i.may) in
        commit_leads w w' old new sure i.certain doubt i.counter commits.files opened start journal notes t is keeps next holds watermark i.action (told_installed i.action old.core) (told_by i.action old.core) facts.0 facts.1 refl t.log_from (λ x same. facts.2 x t.log_from)
        [] (is.from ∙ sym i.from) (omega arith) i.lost i.deeds read small (passes_on (log_from_of new.core) w w' commits.passes) (none_behind w w' old.core new.core commits.passes)

    doubt_leads : (i : Doubts May watermark old.core new.core) → LeadsByLost watermark i.action (told_by i.action old.core) opened journal notes t w w' old new
    doubt_leads i =
        let facts = compaction_facts watermark i.action (only i.action i.may) in
        lost_leads w w' old new sure i.certain doubt i.counter commits.files opened start journal notes t is keeps next holds watermark i.action (told_installed i.action old.core) (told_by i.action old.core) facts.0 facts.1 refl t.log_from (λ x same. facts.2 x t.log_from)
        (told_by i.action old.core) i.would i.v i.deeds i.lost (is.from ∙ sym i.version) (omega arith) i.from commits.passes

    pub outcome_acts : (r : Result Begun Error) → Outcome May watermark r old.core new.core → ActsByCompaction May watermark r w w' old new opened journal notes t
    outcome_acts (Ok b) o = record {
      done = λ h. let i = o.done h in (i.action, i.may, install_leads i);
      lost = λ h. let i = o.lost h in (i.action, i.may, doubt_leads i);
      told = λ isnt. mark_leads (o.told isnt);
      refused = tt;
    }
    outcome_acts (Err e) o = record {
      done = λ h. let i = o.done h in (i.action, i.may, install_leads i);
      lost = λ h. let i = o.lost h in (i.action, i.may, doubt_leads i);
      told = tt;
      refused = λ a b. mark_leads (o.refused a b);
    }

  -- a record has unknown outcome: the mark alone
  pub unsure_compaction : (May : Action → Type 0) → StaysMarked watermark old.core new.core → ActsByCompaction May watermark (Err Unrecoverable) w w' old new opened journal notes t
  unsure_compaction May m = record { done = λ h. ⊎_elim (λ z. absurd (cc z)) (λ z. absurd (cc z)) h; lost = λ h. absurd (cc h); told = tt; refused = λ a b. mark_leads m }

-- ---- how it began

abbrev pub IsFree : Result Begun Error → Type 0
IsFree r = (r ≡ Ok Installed → ⊥) × (IsErrOf r AfterCommit → ⊥) × (IsErrOf r CommitUnknown → ⊥)

abbrev pub Stays : Core → Core → Type 0
Stays old new = (log_from_of new ≡ log_from_of old) × (new.lost ≡ old.lost)

pub stays_same : (old new : Core) → new ≡ old → Stays old new
stays_same old new e = (ap log_from_of e, ap (λ (c : Core). c.lost) e)

pub stays_counted : (old new : Core) → new ≡ counted old → Stays old new
stays_counted old new e = (ap log_from_of e, ap (λ (c : Core). c.lost) e)

-- a version that is to be installed, and isn't
unsettled : (P : SeenVersion → Type 0) (Q : Error → Type 0) (w : ℕ) (r : Result Begun Error) (old new : Core) → InstallsChoice P Q w r old new → IsFree r → Stays old new
unsettled P Q w (Ok b) old new i free = absurd (free.0 (ap Ok i.ok))
unsettled P Q w (Err e) old new i free =
    let s = i.settles in
    ⊎_elim
    (⊎_elim
    (λ m. ⊎_elim (stays_same old new) (stays_counted old new) (s.memory (ap Err m)))
    (⊎_elim (λ m. stays_counted old new (i.store (ap Err m))) (λ m. absurd (free.2 (ap Err m)))))
    (⊎_elim
    (λ m. stays_same old new (s.before (inl (ap Err m))))
    (⊎_elim (λ m. stays_same old new (s.before (inr (ap Err m)))) (λ m. absurd (free.1 (ap Err m)))))
    i.only

unbegun : (choice : Choice) (o : Options) (r : Result Begun Error) (old new : Core) → Does choice o r old new → IsFree r → Stays old new
unbegun DoNothing o r old new d free = stays_same old new d.1
unbegun (Move input) o r old new d free = unsettled _ _ _ r old new d free
unbegun (Merge input) o (Ok b) old new d free = (ap log_from_of d.ok, ap (λ (c : Core). c.lost) d.ok)
unbegun (Merge input) o (Err e) old new d free = stays_same old new d.err
unbegun (Drop ids) o r old new d free = unsettled _ _ _ r old new d free

-- a version that is installed
settled : {P : SeenVersion → Type 0} (w : ℕ) (r : Result Begun Error) (old new : Core) → SettlesSome P w r old new → (r ≡ Ok Installed) ⊎ IsErrOf r AfterCommit → (v : SeenVersion) × P v × (whole : _) × IsInstalled v w whole old new
settled {P} w (Ok b) old new s h = (s.ok.0, s.ok.1, true, s.ok.2)
settled {P} w (Err e) old new s h = ⊎_elim (λ z. absurd (cc z)) (λ after. s.after after) h

module _ (choice : Choice) (o : Options) (r : Result Begun Error) (old new : Core) (begins : BeginsChoice choice o r old new) (deeds : ChoiceDeeds choice o.mvcc_gc_watermark r old new) where
  abbrev mark : ℕ
  mark = o.mvcc_gc_watermark

  stays : IsFree r → Stays old new
  stays free = by_lost old.lost refl
    where
      by_reason : old.lost ≡ None → (why : Option Why) → reason_of choice old ≡ why → Stays old new
      by_reason certain None is = unbegun choice o r old new (begins.does certain is) free
      by_reason certain (Some why) is = stays_same old new (begins.declines why certain is).1

      by_lost : (l : Option SeenVersion) → old.lost ≡ l → Stays old new
      by_lost None is = by_reason is (reason_of choice old) refl
      by_lost (Some v) is = stays_same old new (begins.uncertain (subst (λ (p : Option SeenVersion). IsSome p) (sym is) refl))

  marks : IsFree r → IsMarkDeed mark old new → StaysMarked mark old new
  marks free deed = let s = stays free in (deed, begins_choice choice o r old new begins, s.0, s.1)

  -- where it isn't `Unrecoverable`, no outcome was unknown, and where it isn't declined either, no reason held
  was_certain : (IsErrOf r Unrecoverable → ⊥) → old.lost ≡ None
  was_certain known = by_lost old.lost refl
    where
      by_lost : (l : Option SeenVersion) → old.lost ≡ l → old.lost ≡ None
      by_lost None is = is
      by_lost (Some v) is = absurd (known (begins.unrecoverable.1 (subst (λ (p : Option SeenVersion). IsSome p) (sym is) refl)))

  pub was_free : old.lost ≡ None → ((why : Why) → (r ≡ Ok (Declined why)) ⊎ (r ≡ Err OutOfMemory) → ⊥) → Does choice o r old new
  was_free certain isnt = by_reason (reason_of choice old) refl
    where
      by_reason : (why : Option Why) → reason_of choice old ≡ why → Does choice o r old new
      by_reason None is = begins.does certain is
      by_reason (Some why) is = absurd (isnt why (begins.declines why certain is).0)

  does_it : (r ≡ Ok Installed) ⊎ (IsErrOf r AfterCommit ⊎ IsErrOf r CommitUnknown) → (old.lost ≡ None) × Does choice o r old new
  does_it h =
      let certain = was_certain (λ k. ⊎_elim (λ e. let z : Err Unrecoverable ≡ Ok Installed = sym k ∙ e in absurd (cc z)) (λ m. ⊎_elim (λ e. let z : Err Unrecoverable ≡ Err AfterCommit = sym k ∙ e in absurd (cc z)) (λ e. let z : Err Unrecoverable ≡ Err CommitUnknown = sym k ∙ e in absurd (cc z)) m) h) in (
        certain,
        was_free certain (λ why k. ⊎_elim
            (λ d. ⊎_elim (λ e. let z : Ok (Declined why) ≡ Ok Installed = sym d ∙ e in absurd (cc z)) (λ m. ⊎_elim (λ e. let z : Ok (Declined why) ≡ Err AfterCommit = sym d ∙ e in absurd (cc z)) (λ e. let z : Ok (Declined why) ≡ Err CommitUnknown = sym d ∙ e in absurd (cc z)) m) h)
            (λ d. ⊎_elim (λ e. let z : Err OutOfMemory ≡ Ok Installed = sym d ∙ e in absurd (cc z)) (λ m. ⊎_elim (λ e. let z : Err OutOfMemory ≡ Err AfterCommit = sym d ∙ e in absurd (cc z)) (λ e. let z : Err OutOfMemory ≡ Err CommitUnknown = sym d ∙ e in absurd (cc z)) m) h)
            k),
      )

installed_as : {May : Action → Type 0} (w : ℕ) (action : Action) (old new : Core) → May action → old.lost ≡ None → AreDone w action (told_installed action old) [] old new → (v : SeenVersion) → v.log_from ≡ max (log_from_of old) 0 → (whole : _) → IsInstalled v w whole old new → Installs May w old new
installed_as w action old new may certain deeds v version whole i = record {
  action = action;
  may = may;
  certain = certain;
  deeds = deeds;
  counter = ap (λ (c : Core). c.seqno) i.rest;
  lost = ap (λ (c : Core). c.lost) i.rest ∙ certain;
  from = let e = ap (λ (sv : SuperVersion). sv.version.log_from) i.history.latest in omega (arith, e, version);
}

doubted_as : {May : Action → Type 0} (w : ℕ) (action : Action) (old new would : Core) → May action → old.lost ≡ None → AreLostTelling w action (told_by action old) (told_installed action old) old would new → (v : SeenVersion) → v.log_from ≡ max (log_from_of old) 0 → IsDoubted v old new → Doubts May w old new
doubted_as w action old new would may certain deeds v version i = record {
  action = action;
  may = may;
  certain = certain;
  would = would;
  v = v;
  deeds = deeds;
  counter = ap (λ (c : Core). c.seqno) i;
  lost = ap (λ (c : Core). c.lost) i;
  version = omega (arith, version);
  from = ap log_from_of i;
}

module _ (May : Action → Type 0) where
  choice_done : (choice : Choice) (o : Options) (r : Result Begun Error) (old new : Core) → Allows May o.mvcc_gc_watermark choice → old.lost ≡ None → Does choice o r old new → IsChoiceDeed choice o.mvcc_gc_watermark old new → (r ≡ Ok Installed) ⊎ IsErrOf r AfterCommit → Installs May o.mvcc_gc_watermark old new
  choice_done DoNothing o r old new may certain d deed h = absurd deed
  choice_done (Move input) o r old new may certain d deed h =
      let s = settled o.mvcc_gc_watermark r old new d.settles h in
      installed_as o.mvcc_gc_watermark (Moved input.dest_level input.table_ids.keys (placed_in input.dest_level deed.0)) old new (may deed.0) certain deed.1 s.0 s.1.moves.next.log_from s.2 s.3
  choice_done (Merge input) o r old new may certain d deed h = absurd deed
  choice_done (Drop ids) o r old new may certain d deed h =
      let s = settled o.mvcc_gc_watermark r old new d.settles h in
      installed_as o.mvcc_gc_watermark (DroppedTables ids.keys) old new may certain deed s.0 s.1.next.log_from s.2 s.3

  choice_lost : (choice : Choice) (o : Options) (r : Result Begun Error) (old new : Core) → Allows May o.mvcc_gc_watermark choice → old.lost ≡ None → Does choice o r old new → IsLostChoice choice o.mvcc_gc_watermark old new → IsErrOf r CommitUnknown → Doubts May o.mvcc_gc_watermark old new
  choice_lost DoNothing o r old new may certain d deed u = absurd deed
  choice_lost (Move input) o r old new may certain d deed u =
      let s = d.settles.unknown u in
      doubted_as o.mvcc_gc_watermark (Moved input.dest_level input.table_ids.keys (placed_in input.dest_level deed.0)) old new deed.1 (may deed.0) certain deed.2 s.0 s.1.moves.next.log_from s.2
  choice_lost (Merge input) o r old new may certain d deed u = absurd deed
  choice_lost (Drop ids) o r old new may certain d deed u =
      let s = d.settles.unknown u in
      doubted_as o.mvcc_gc_watermark (DroppedTables ids.keys) old new deed.0 may certain deed.1 s.0 s.1.next.log_from s.2

abbrev pub ok_of : Begun → Result Begun Error
ok_of x = Ok x

ok_is : (x y : Begun) → ok_of x ≡ ok_of y → x ≡ y
ok_is x y e = cc e

err_is : (x y : Error) → IsErrOf {T = Begun} (Err x) y → x ≡ y
err_is x y e = cc e

module _ (May : Action → Type 0) (choice : Choice) (o : Options) (may : Allows May o.mvcc_gc_watermark choice) where
  pub choice_outcome : (r : Result Begun Error) (old new : Core) → BeginsChoice choice o r old new → ChoiceDeeds choice o.mvcc_gc_watermark r old new → Outcome May o.mvcc_gc_watermark r old new
  choice_outcome (Ok b) old new begins deeds = record {
    done = λ h. let d = does_it choice o (Ok b) old new begins deeds (⊎_elim (λ e. inl e) (λ e. inr (inl e)) h) in choice_done May choice o (Ok b) old new may d.0 d.1 (deeds.done h) h;
    lost = λ h. absurd (cc h);
    told = λ isnt. marks choice o (Ok b) old new begins deeds ((λ e. isnt (ok_is b Installed e)), (λ z. cc z), (λ z. cc z)) (deeds.told isnt);
    refused = tt;
  }
  choice_outcome (Err e) old new begins deeds = record {
    done = λ h. let d = does_it choice o (Err e) old new begins deeds (⊎_elim (λ e. inl e) (λ e. inr (inl e)) h) in choice_done May choice o (Err e) old new may d.0 d.1 (deeds.done h) h;
    lost = λ h. let d = does_it choice o (Err e) old new begins deeds (inr (inr h)) in choice_lost May choice o (Err e) old new may d.0 d.1 (deeds.lost h) h;
    told = tt;
    refused = λ a u. marks choice o (Err e) old new begins deeds ((λ z. cc z), (λ z. a (err_is e AfterCommit z)), (λ z. u (err_is e CommitUnknown z))) (deeds.refused a u);
  }

-- ---- where nothing is installed

pub quiet_outcome : {May : Action → Type 0} (w : ℕ) (r : Result Begun Error) (old new : Core) → IsFree r → StaysMarked w old new → Outcome May w r old new
quiet_outcome w (Ok b) old new free m = record { done = λ h. absurd (⊎_elim free.0 free.1 h); lost = λ h. absurd (free.2 h); told = λ isnt. m; refused = tt }
quiet_outcome w (Err e) old new free m = record { done = λ h. absurd (⊎_elim free.0 free.1 h); lost = λ h. absurd (free.2 h); told = tt; refused = λ a u. m }

-- the tree is as it was
pub same_marked : (w : ℕ) (old new : Core) → IsMarkDeed w old old → new ≡ old → StaysMarked w old new
same_marked w old new deed e = (subst (IsMarkDeed w old) (sym e) deed, let q = ap (λ (c : Core). c.seqno) e in omega (arith, q), ap log_from_of e, ap (λ (c : Core). c.lost) e)

-- ---- a choice of a strategy

strategy_free : (e : ChooseError) → IsFree (Err (error_of e))
strategy_free NoMemory = ((λ z. cc z), (λ z. cc z), (λ z. cc z))
strategy_free Several = ((λ z. cc z), (λ z. cc z), (λ z. cc z))
strategy_free InUse = ((λ z. cc z), (λ z. cc z), (λ z. cc z))
strategy_free Refused = ((λ z. cc z), (λ z. cc z), (λ z. cc z))

pub begun_outcome : (May : Action → Type 0) (may_choose : Relation Choice) (may_refuse : Relation ChooseError) (o : Options) (r : Result Begun Error) (old new : Core) → ((choice : Choice) → MayAnswer may_choose old choice → Allows May o.mvcc_gc_watermark choice)
    → CompactionsAreDeeds → IsKeptTree old → IsMarkDeed o.mvcc_gc_watermark old old → BeginsCompaction may_choose may_refuse o r old new → Outcome May o.mvcc_gc_watermark r old new
begun_outcome May may_choose may_refuse o r old new may law kept deed b = by_lost old.lost refl
  where
    free_of : (e : Error) → r ≡ Err e → IsFree (Err e) → IsFree r
    free_of e is free = subst IsFree (sym is) free

    by_lost : (l : Option SeenVersion) → old.lost ≡ l → Outcome May o.mvcc_gc_watermark r old new
    by_lost None is = ⊎_elim
        (λ c. choice_outcome May c.0 o (may c.0 c.1) r old new c.2 (law.choices c.0 o r old new kept c.2))
        (λ e. quiet_outcome o.mvcc_gc_watermark r old new (free_of (error_of e.0) e.2 (strategy_free e.0)) (same_marked o.mvcc_gc_watermark old new deed e.3))
        (b.chosen is)
    by_lost (Some v) is =
        let there = subst (λ (p : Option SeenVersion). IsSome p) (sym is) refl in
        quiet_outcome o.mvcc_gc_watermark r old new (free_of Unrecoverable (b.unrecoverable.1 there) ((λ z. cc z), (λ z. cc z), (λ z. cc z))) (same_marked o.mvcc_gc_watermark old new deed (b.uncertain there))

-- ---- a call

-- a record has unknown outcome: the mark alone
pub unsure_acts : {S : Type 0} {May : Action → Type 0} (watermark : ℕ) (world : S → World) (tree : Seen S) (numbers : List ℕ) (doubted : Bool) (now : SeenLogged S) → logged_with tree numbers doubted ≡ now → IsKeptTree now.core → FlushesAreDeeds → Upholds (world tree.store) (world tree.store) tree.core tree.core
    → CompactsBy May watermark (Err Unrecoverable) (world now.store) (world now.store) now now
unsure_acts {S} {May} watermark world tree numbers doubted now same kept law still =
    let there : Upholds (world now.store) (world now.store) now.core now.core = subst (λ (t : SeenLogged S). Upholds (world t.store) (world t.store) t.core t.core) same still in
    let deed : IsMarkDeed watermark now.core now.core = law.spends watermark 0 now.core kept in
    λ opened start journal notes t is keeps next holds. unsure_compaction watermark (world now.store) (world now.store) now now refl there opened start journal notes t is keeps next holds May (same_marked watermark now.core now.core deed refl)

-- no record has: what the tree's call did, of the actions that may be of a tree as it was
pub answers_act : {S : Type 0} (May : Core → Action → Type 0) (watermark : ℕ) → ((c : Core) (action : Action) → May c action → IsAnyCompaction watermark action)
    → (world : S → World) (tree mid : Seen S) (numbers : List ℕ) (doubted : Bool) (now : SeenLogged S) → logged_with tree numbers doubted ≡ now → IsKeptTree now.core → now.core.seqno < 2 ^ 64 → PlainNumbersAreRead → doubted ≡ false → Upholds (world tree.store) (world mid.store) tree.core mid.core
    → (r : Result Begun Error) → (IsKeptTree tree.core → Outcome (May tree.core) watermark r tree.core mid.core) → CompactsBy (May now.core) watermark r (world now.store) (world mid.store) now (logged_with mid numbers doubted)
answers_act {S} May watermark only world tree mid numbers doubted now same kept small read sure commits r outcome =
    let old = logged_with tree numbers doubted in
    let new = logged_with mid numbers doubted in
    let there = subst (λ (t : SeenLogged S). IsKeptTree t.core) (sym same) kept in
    let fits = subst (λ (t : SeenLogged S). t.core.seqno < 2 ^ 64) (sym same) small in
    subst (λ (t : SeenLogged S). CompactsBy (May t.core) watermark r (world t.store) (world new.store) t new) same
    (λ opened start journal notes t is keeps next holds. outcome_acts watermark (world old.store) (world new.store) old new refl commits opened start journal notes t is keeps next holds (May old.core) (only old.core) sure fits read r (outcome there))

-- the same of a compaction that drops none but tables that may be dropped
pub answered_acts : {S : Type 0} (May : Core → List ℕ → Type 0) (watermark : ℕ) (world : S → World) (tree mid : Seen S) (numbers : List ℕ) (doubted : Bool) (now : SeenLogged S) → logged_with tree numbers doubted ≡ now → IsKeptTree now.core → now.core.seqno < 2 ^ 64 → PlainNumbersAreRead → doubted ≡ false → Upholds (world tree.store) (world mid.store) tree.core mid.core
    → (r : Result Begun Error) → (IsKeptTree tree.core → Outcome (IsCompaction (May tree.core) watermark) watermark r tree.core mid.core) → CompactsAct (May now.core) watermark r (world now.store) (world mid.store) now (logged_with mid numbers doubted)
answered_acts May watermark world tree mid numbers doubted now = answers_act (λ c. IsCompaction (May c) watermark) watermark (λ c. any_of (May c) watermark) world tree mid numbers doubted now

-- so a strategy begins one: it drops none but tables that the strategy may drop
pub begun_acts : {S : Type 0} {may_choose : Relation Choice} {may_refuse : Relation ChooseError} (o : Options) (world : S → World) (tree mid : Seen S) (numbers : List ℕ) (doubted : Bool) (now : SeenLogged S) → logged_with tree numbers doubted ≡ now → IsKeptTree now.core → now.core.seqno < 2 ^ 64 → PlainNumbersAreRead → doubted ≡ false
    → Upholds (world tree.store) (world mid.store) tree.core mid.core → (r : Result Begun Error) → CompactionsAreDeeds → FlushesAreDeeds → BeginsCompaction may_choose may_refuse o r tree.core mid.core → CompactsAct (MayDropIds may_choose now.core) o.mvcc_gc_watermark r (world now.store) (world mid.store) now (logged_with mid numbers doubted)
begun_acts {may_choose = may} {may_refuse = refuse} o world tree mid numbers doubted now same kept small read sure commits r law flushes begins =
    answered_acts (MayDropIds may) o.mvcc_gc_watermark world tree mid numbers doubted now same kept small read sure commits r
    (λ here. begun_outcome (IsCompaction (MayDropIds may tree.core) o.mvcc_gc_watermark) may refuse o r tree.core mid.core (chosen_allowed may o.mvcc_gc_watermark tree.core) law here (flushes.spends o.mvcc_gc_watermark 0 tree.core here) begins)
