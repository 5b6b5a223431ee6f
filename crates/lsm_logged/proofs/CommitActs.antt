-- A commit of a logged tree, after a mark, is an act of the theory.
use Rattle.std.proofs.Common.{◌≡◌, ℕ, ◌+◌, ◌<◌, ◌≤◌, ◌^◌, true, false, List, [], ◌∷◌, ◌++◌, Some, None, sym, ap, ◌∙◌, subst, arith, append_assoc}
use Rattle.lsm_below.specs.Entries.{Entry}
use Rattle.lsm_below.specs.Numbers.{PlainNumbersAreRead}
use Rattle.lsm_store.specs.World.{World}
use Rattle.lsm_model.specs.Journal.{Event, Map}
use Rattle.lsm_model.specs.Sound.{Holds}
use Rattle.lsm_model.specs.Steps.{State, Action, Marked, Maintained}
use Rattle.lsm_model.specs.Beginnings.{Note, Saved, Done, Lost, Deeds}
use Rattle.lsm_model.specs.declared.journal.JournalEntry.TheVariants.{Install, Mark}
use Rattle.lsm_model.proofs.Runs.{latest_ordered}
use Rattle.lsm_versions.specs.Levels.{SeenVersion}
use Rattle.lsm_commit.specs.Foreign.{Passes}
use Rattle.lsm_log_model.specs.Logs.{Logged as Log, IsCertain, MayBeDrawn, is_write, next_from, Did, CommitLost}
use Rattle.lsm_state.specs.Core.{state_of}
use Rattle.lsm_state.specs.Deeds.{saved_of, HasOrder, AreDone}
use Rattle.lsm_state.specs.CompactionDeeds.{AreLostTelling}
use Rattle.lsm_state.specs.Commits.{UpholdsFiles}
use Rattle.lsm_logged.specs.Keeping.{SeenLogged, IsLogOf, KeepsLog}
use Rattle.lsm_logged.specs.Removing.{log_from_of, Passed}
use Rattle.lsm_logged.specs.Flushing.{RemovesBehind}
use Rattle.lsm_logged.specs.Acting.{LeadsByCommit, LeadsByLost}
use Rattle.lsm_logged.proofs.Left.{removed_stay}
use Rattle.lsm_logged.proofs.Led.{Lifted, is_install, done_marked, lost_marked, is_certain, leads, leads_passing}

module _ {S : Type 0} (w w' : World) (old new : SeenLogged S) (sure : old.doubted ≡ false) (none : old.core.lost ≡ None) (doubt : new.doubted ≡ old.doubted) (counter : new.core.seqno ≡ old.core.seqno + 1) (files : UpholdsFiles w w' old.core new.core)
    (opened : List Entry) (start : Map) (journal : List Event) (notes : List Note) (t : Log) (is : IsLogOf journal notes old.core old.doubted t) (keeps : KeepsLog w t) (next : MayBeDrawn opened t old.core.seqno) (holds : Holds opened start t.tree.state)
    (mark : ℕ) (action : Action) (events before : List Event) (silent : is_write action ≡ false) (installs : is_install action ≡ true) (last : events ≡ before ++ Install old.core.seqno ∷ []) (f : ℕ) (from : (x : State) → x.mems ≡ t.tree.state.mems → next_from x t.log_from action ≡ f) where
  certain : IsCertain t
  certain = is_certain journal notes old.core old.doubted t is sure none

  ordered : HasOrder old.core
  ordered = latest_ordered opened start (state_of journal old.core) (subst (λ (s : Saved). Holds opened start s.state) is.tree holds)

  told_last : journal ++ Mark mark ∷ events ≡ (journal ++ Mark mark ∷ before) ++ Install old.core.seqno ∷ []
  told_last = ap (λ es. journal ++ Mark mark ∷ es) last ∙ sym (append_assoc journal (Mark mark ∷ before) (Install old.core.seqno ∷ []))

  -- it stands
  pub commit_leads : (noted : List Note) → f ≡ log_from_of new.core → t.log_from ≤ f → new.core.lost ≡ None → AreDone mark action events noted old.core new.core
      → PlainNumbersAreRead → old.core.seqno < 2 ^ 64 → Passed (log_from_of new.core) w w' → RemovesBehind w w' old.core new.core → LeadsByCommit mark action events noted opened journal notes t w w' old new
  commit_leads noted version rises lost deeds read small passed behind =
      let tree : Saved = saved_of (journal ++ Mark mark ∷ events) (noted ++ notes) new.core in
      let acts = Did (Marked mark) ∷ (Did action ∷ (Did (Maintained mark) ∷ [])) in
      let d = subst (λ (s : Saved). Deeds opened s (Done (Marked mark) ∷ (Done action ∷ (Done (Maintained mark) ∷ []))) tree) (sym is.tree) (deeds opened journal notes ordered) in
      let l = subst (λ c. Lifted opened t acts tree f t.other_from c (Unit {0})) (sym counter) (done_marked opened t old.core.seqno mark action tree (journal ++ Mark mark ∷ before) certain next silent installs f from rises told_last d) in
      leads opened journal notes t w w' old new is keeps files doubt (journal ++ Mark mark ∷ events) (noted ++ notes) acts f t.other_from (Unit {0}) l version (λ v h. let z : None ≡ Some v = sym lost ∙ h in absurd (cc z)) (omega (arith, counter))
      (removed_stay w w' old.core new.core t l.log l.left l.lost (subst (λ x. t.log_from ≤ x) (sym l.from) rises) keeps files read old.core.seqno small next.above_records (l.counts tt) (sym version ∙ sym l.from) passed behind)

  -- its outcome is unknown
  pub lost_leads : (told : List Event) (would : _) (v : SeenVersion) → AreLostTelling mark action told events old.core would new.core → new.core.lost ≡ Some v → f ≡ v.log_from → t.log_from ≤ f → log_from_of new.core ≡ log_from_of old.core → Passes w w' → LeadsByLost mark action told opened journal notes t w w' old new
  lost_leads told would v deeds lost version rises same passes =
      let tree : Saved = saved_of (journal ++ Mark mark ∷ told) notes new.core in
      let made = state_of (journal ++ Mark mark ∷ events) would in
      let acts = Did (Marked mark) ∷ (CommitLost action made ∷ []) in
      let d = subst (λ (s : Saved). Deeds opened s (Done (Marked mark) ∷ (Lost action made ∷ [])) tree) (sym is.tree) (deeds opened journal notes ordered) in
      let l = subst (λ c. Lifted opened t acts tree t.log_from f c ⊥) (sym counter) (lost_marked opened t old.core.seqno mark action tree (journal ++ Mark mark ∷ before) certain next silent installs f from rises made told_last d) in (
        made,
        leads_passing opened journal notes t w w' old new is keeps files doubt passes (journal ++ Mark mark ∷ told) notes acts t.log_from f ⊥ l (omega arith) (is.from ∙ sym same)
            (λ u h. version ∙ ap (λ (x : SeenVersion). x.log_from) (some_is v u (sym lost ∙ h))) (omega (arith, counter)),
      )
    where
      some_is : (x y : SeenVersion) → Some x ≡ Some y → x ≡ y
      some_is x y e = cc e
