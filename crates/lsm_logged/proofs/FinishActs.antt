-- The end of a merge of a logged tree is an act of the theory.
use Rattle.std.proofs.Common.{◌≡◌, ⊎_elim, false, List, [], ◌∷◌, ◌++◌, Some, None, Result, Ok, Err, IsErrOf, refl, sym, ap, ◌∙◌, subst, arith}
use Rattle.lsm_below.specs.Entries.{Entry}
use Rattle.lsm_below.specs.declared.error.Error.{Error}
use Rattle.lsm_below.specs.declared.error.Error.TheVariants.{CommitUnknown, Unrecoverable, AfterCommit}
use Rattle.lsm_store.specs.World.{World}
use Rattle.lsm_compaction.specs.Merges.{SeenCompaction}
use Rattle.lsm_model.specs.Journal.{Event, Map}
use Rattle.lsm_model.specs.Sound.{Holds}
use Rattle.lsm_model.specs.Steps.{State, Maintained}
use Rattle.lsm_model.specs.Beginnings.{Note, Saved, Done, Lost, Deeds}
use Rattle.lsm_model.specs.declared.journal.JournalEntry.TheVariants.{Install}
use Rattle.lsm_model.proofs.Runs.{latest_ordered}
use Rattle.lsm_versions.specs.Levels.{SeenVersion, placed_in}
use Rattle.lsm_log_model.specs.Logs.{Logged as Log, IsCertain, MayBeDrawn, Did, CommitLost}
use Rattle.lsm_state.specs.declared.compaction.Finished.{Finished}
use Rattle.lsm_state.specs.declared.compaction.Finished.TheVariants.{Installed as Whole}
use Rattle.lsm_state.specs.Core.{state_of}
use Rattle.lsm_state.specs.Kept.{IsKeptTree}
use Rattle.lsm_state.specs.Commits.{Upholds}
use Rattle.lsm_state.specs.Deeds.{saved_of, HasOrder, IsNoDeed}
use Rattle.lsm_state.specs.Compactions.{Finishes}
use Rattle.lsm_state.specs.CompactionDeeds.{IsMarkedIn, merge_of, IsMergeDeed, IsLostMerge, MergeDeeds, CompactionsAreDeeds}
use Rattle.lsm_logged.specs.Keeping.{SeenLogged, IsLogOf, KeepsLog}
use Rattle.lsm_logged.specs.Acting.{ActsNot, LeadsBy, ActsByMerge, MergesAct}
use Rattle.lsm_logged.proofs.Led.{Lifted, kept_up, unknown, told_last, last_install, is_certain, leads_passing, leads_nowhere}
use Rattle.lsm_logged.proofs.Merged.{IsOver, IsIn, IsInDoubt, is_in, in_doubt, over}
use Rattle.lsm_logged.proofs.Rising.{finishes}

abbrev ok_of : Finished → Result Finished Error
ok_of x = Ok x

ok_is : (x y : Finished) → ok_of x ≡ ok_of y → x ≡ y
ok_is x y e = cc e

err_is : (x y : Error) → IsErrOf {T = Finished} (Err x) y → x ≡ y
err_is x y e = cc e

module _ {S : Type 0} (job : SeenCompaction) (w w' : World) (old new : SeenLogged S) (doubt : new.doubted ≡ old.doubted) (commits : Upholds w w' old.core new.core)
    (opened : List Entry) (start : Map) (journal : List Event) (notes : List Note) (t : Log) (is : IsLogOf journal notes old.core old.doubted t) (keeps : KeepsLog w t) where
  -- nothing is installed
  quiet : (r : Result Finished Error) → Finishes job r old.core new.core → IsOver r → IsNoDeed old.core new.core → LeadsBy opened journal notes t [] w w' old new
  quiet r ends free none =
      let same = over job r old.core new.core ends free in
      leads_nowhere opened journal notes t w w' old new is keeps commits.files doubt commits.passes (none opened journal notes) same.0 same.1 (finishes job r old.core new.core ends)

  module _ (sure : old.doubted ≡ false) (next : MayBeDrawn opened t old.core.seqno) (holds : Holds opened start t.tree.state) where
    ordered : HasOrder old.core
    ordered = latest_ordered opened start (state_of journal old.core) (subst (λ (s : Saved). Holds opened start s.state) is.tree holds)

    certain : old.core.lost ≡ None → IsCertain t
    certain none = is_certain journal notes old.core old.doubted t is sure none

    installed : (r : Result Finished Error) (i : IsIn old.core new.core) (deed : IsMergeDeed job old.core new.core) → IsMarkedIn job.settings.watermark journal → LeadsBy opened (journal ++ Install old.core.seqno ∷ []) notes t (Did (merge_of job deed.0) ∷ (Did (Maintained job.settings.watermark) ∷ [])) w w' old new
    installed r i deed marked =
        let watermark = job.settings.watermark in
        let action = merge_of job deed.0 in
        let journal' = journal ++ Install old.core.seqno ∷ [] in
        let tree : Saved = saved_of journal' notes new.core in
        let acts = Did action ∷ (Did (Maintained watermark) ∷ []) in
        let d = subst (λ (s : Saved). Deeds opened s (Done action ∷ (Done (Maintained watermark) ∷ [])) tree) (sym is.tree) (deed.1 opened journal notes ordered marked) in
        let l = subst (λ c. Lifted opened t acts tree t.log_from t.other_from c (Unit {0})) (sym i.counter) (kept_up opened t old.core.seqno watermark action tree journal (certain i.certain) next refl refl refl (omega arith) d) in
        let counter = i.counter in
        leads_passing opened journal notes t w w' old new is keeps commits.files doubt commits.passes journal' notes acts t.log_from t.other_from (Unit {0}) l (omega arith) (is.from ∙ sym i.from) (λ v h. let z : None ≡ Some v = sym i.lost ∙ h in absurd (cc z)) (omega (arith, counter))

    doubtful : (r : Result Finished Error) (i : IsInDoubt old.core new.core) (deed : IsLostMerge job old.core new.core) → (would : State) × LeadsBy opened journal notes t (CommitLost (merge_of job deed.0) would ∷ []) w w' old new
    doubtful r i deed =
        let action = merge_of job deed.0 in
        let told = journal ++ Install old.core.seqno ∷ [] in
        let would = state_of told deed.1 in
        let tree : Saved = saved_of journal notes new.core in
        let acts = CommitLost action would ∷ [] in
        let d = subst (λ (s : Saved). Deeds opened s (Lost action would ∷ []) tree) (sym is.tree) (deed.2 opened journal notes ordered) in
        let last = told_last opened t.tree.state action would refl d.1.step in
        let number : would.latest.number ≡ old.core.seqno = last_install journal last.0 old.core.seqno would.latest.number last.1 in
        let l = subst (λ c. Lifted opened t acts tree t.log_from t.log_from c ⊥) (sym i.counter) (unknown opened t old.core.seqno action would d.0 tree (certain i.certain) next number d.1 (sym d.2)) in
        let counter = i.counter in (
          would,
          leads_passing opened journal notes t w w' old new is keeps commits.files doubt commits.passes journal notes acts t.log_from t.log_from ⊥ l (omega arith) (is.from ∙ sym i.from)
              (λ v h. is.from ∙ sym i.version ∙ ap (λ (x : SeenVersion). x.log_from) (some_is i.v v (sym i.lost ∙ h))) (omega (arith, counter)),
        )
      where
        some_is : (x y : SeenVersion) → Some x ≡ Some y → x ≡ y
        some_is x y e = cc e

    ended : (r : Result Finished Error) → Finishes job r old.core new.core → MergeDeeds job r old.core new.core → ActsByMerge job r w w' old new opened journal notes t
    ended (Ok f) ends deeds = record {
      done = λ h marked. let deed = deeds.done h in (placed_in job.settings.dest_level deed.0, installed (Ok f) (is_in job (Ok f) old.core new.core ends h) deed marked);
      lost = λ u. let deed = deeds.lost u in let led = doubtful (Ok f) (in_doubt job (Ok f) old.core new.core ends u) deed in (placed_in job.settings.dest_level deed.0, led.0, led.1);
      told = λ isnt. quiet (Ok f) ends ((λ z. isnt (ok_is f Whole z)), (λ z. cc z), (λ z. cc z)) (deeds.told isnt);
      refused = tt;
    }
    ended (Err e) ends deeds = record {
      done = λ h marked. let deed = deeds.done h in (placed_in job.settings.dest_level deed.0, installed (Err e) (is_in job (Err e) old.core new.core ends h) deed marked);
      lost = λ u. let deed = deeds.lost u in let led = doubtful (Err e) (in_doubt job (Err e) old.core new.core ends u) deed in (placed_in job.settings.dest_level deed.0, led.0, led.1);
      told = tt;
      refused = λ a u. quiet (Err e) ends ((λ z. cc z), (λ z. a (err_is e AfterCommit z)), (λ z. u (err_is e CommitUnknown z))) (deeds.refused a u);
    }

-- ---- the call

-- a record has unknown outcome: the job is spent, of which the theory sees nothing
pub unsure_merge : {S : Type 0} (job : SeenCompaction) (w w' : World) (old new : SeenLogged S) → ActsNot w w' old new → MergesAct job (Err Unrecoverable) w w' old new
unsure_merge job w w' old new acts opened start journal notes t is keeps next holds = record {
  done = λ h. absurd (⊎_elim (λ z. cc z) (λ z. cc z) h);
  lost = λ u. absurd (cc u);
  told = tt;
  refused = λ a u. acts opened journal notes t is keeps;
}

pub merge_acts : {S : Type 0} (job : SeenCompaction) (world : S → World) (old now new : SeenLogged S) → old ≡ now → IsKeptTree now.core → CompactionsAreDeeds → old.doubted ≡ false → new.doubted ≡ old.doubted → Upholds (world old.store) (world new.store) old.core new.core
    → (r : Result Finished Error) → Finishes job r old.core new.core → MergesAct job r (world now.store) (world new.store) now new
merge_acts {S} job world old now new same kept law sure doubt commits r ends =
    let there = subst (λ (t : SeenLogged S). IsKeptTree t.core) (sym same) kept in
    subst (λ (t : SeenLogged S). MergesAct job r (world t.store) (world new.store) t new) same
    (λ opened start journal notes t is keeps next holds. ended job (world old.store) (world new.store) old new doubt commits opened start journal notes t is keeps sure next holds r ends (law.merges job r old.core new.core there ends))
