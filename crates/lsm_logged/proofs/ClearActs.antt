-- A clear of a logged tree is an act of the theory.
use Rattle.std.proofs.Common.{◌≡◌, ◌⊎◌, ⊎_elim, inl, inr, ℕ, ◌+◌, ◌<◌, ◌^◌, Bool, false, List, [], ◌∷◌, ◌++◌, length, Some, None, Ok, Err, IsErrOf, refl, sym, ap, ◌∙◌, subst, arith}
use Rattle.std.specs.Option.{is_some}
use Rattle.lsm_below.specs.Entries.{Entry}
use Rattle.lsm_below.specs.Numbers.{PlainNumbersAreRead}
use Rattle.lsm_below.specs.declared.error.Error.{Error}
use Rattle.lsm_below.specs.declared.error.Error.TheVariants.{CommitUnknown, Unrecoverable, AfterCommit}
use Rattle.lsm_store.specs.World.{World}
use Rattle.lsm_model.specs.Journal.{Event}
use Rattle.lsm_model.specs.Steps.{State, Cleared}
use Rattle.lsm_model.specs.Beginnings.{Note, ClearedTo, ClearLost, Saved, Done, Lost, Deeds}
use Rattle.lsm_model.specs.declared.journal.JournalEntry.TheVariants.{Clear}
use Rattle.lsm_versions.specs.Levels.{SeenVersion}
use Rattle.lsm_log_model.specs.Logs.{Logged as Log, MayBeDrawn, Did, CommitLost, did}
use Rattle.lsm_log_model.proofs.Batches.{since_high}
use Rattle.lsm_state.specs.Core.{Core, Seen, state_of}
use Rattle.lsm_state.specs.Deeds.{saved_of}
use Rattle.lsm_state.specs.Commits.{UpholdsFiles, Upholds, counted}
use Rattle.lsm_state.specs.Clearing.{Clears, ClearDeeds, cleared, cleared_in}
use Rattle.lsm_logged.specs.Keeping.{SeenLogged, is_unsure, IsLogOf, KeepsLog}
use Rattle.lsm_logged.specs.Removing.{log_from_of, Passed}
use Rattle.lsm_logged.specs.Flushing.{RemovesBehind}
use Rattle.lsm_logged.specs.Acting.{LeadsBy, clear_of, LeadsByClear, ActsByClear, ClearsAct}
use Rattle.lsm_logged.proofs.Acted.{neither}
use Rattle.lsm_logged.proofs.Left.{removed_stay}
use Rattle.lsm_logged.proofs.Known.{LeavesLogged}
use Rattle.lsm_logged.proofs.Seen.{logged_with}
use Rattle.lsm_logged.proofs.Led.{first, stop, unknown, none_left, is_certain, leads, leads_passing, leads_nowhere, Lifted}

abbrev not_unknown : Error → Type 0
not_unknown e = IsErrOf {T = ℕ} (Err e) CommitUnknown → ⊥

some_same : (v u : SeenVersion) → Some v ≡ Some u → v ≡ u
some_same v u e = cc e

module _ {S : Type 0} (read : PlainNumbersAreRead) (w w' : World) (old new : SeenLogged S) (sure : is_unsure old ≡ false) (doubt : new.doubted ≡ old.doubted) (small : old.core.seqno < 2 ^ 64)
    (opened : List Entry) (journal : List Event) (notes : List Note) (t : Log) (is : IsLogOf journal notes old.core old.doubted t) (keeps : KeepsLog w t) (next : MayBeDrawn opened t old.core.seqno) where
  both : (old.doubted ≡ false) × (old.core.lost ≡ None)
  both = let two = neither old.doubted (is_some old.core.lost) sure in (two.0, none_left old.core.lost two.1)

  -- it stands, and records are removed after it
  pub cleared_leads : new.core ≡ cleared old.core → Deeds opened (saved_of journal notes old.core) (Done (clear_of old) ∷ []) (saved_of (journal ++ Clear old.core.seqno ∷ []) (ClearedTo (length journal + 1) ∷ notes) new.core)
      → UpholdsFiles w w' old.core new.core → Passed (log_from_of new.core) w w' → RemovesBehind w w' old.core new.core → LeadsByClear opened journal notes t w w' old new
  cleared_leads core deeds files passed behind =
      let journal' = journal ++ Clear old.core.seqno ∷ [] in
      let notes' = ClearedTo (length journal + 1) ∷ notes in
      let tree : Saved = saved_of journal' notes' new.core in
      let d = subst (λ (s : Saved). Deeds opened s (Done (clear_of old) ∷ []) tree) (sym is.tree) deeds in
      let number = ap (λ (s : State). s.latest.number) d.1.step.1 in
      let counter : new.core.seqno ≡ old.core.seqno + 1 = ap (λ (c : Core). c.seqno) core in
      let l = first opened t (clear_of old) d.0 [] tree old.core.seqno t.other_from new.core.seqno (Unit {0}) refl (λ q. (is_certain journal notes old.core old.doubted t is both.0 both.1, subst (MayBeDrawn opened t) (sym number) next, omega (arith, number, counter))) d.1 (omega arith)
      (stop opened (did t (clear_of old) d.0) tree new.core.seqno (Unit {0}) (sym d.2) (λ u. since_high old.core.seqno t.records)) in
      let from : old.core.seqno ≡ log_from_of new.core = sym (ap log_from_of core) in
      let lost : new.core.lost ≡ None = ap (λ (c : Core). c.lost) core ∙ both.1 in
      leads opened journal notes t w w' old new is keeps files doubt journal' notes' (Did (clear_of old) ∷ []) old.core.seqno t.other_from (Unit {0}) l from (λ v h. let z : None ≡ Some v = sym lost ∙ h in absurd (cc z)) (omega (arith, counter))
      (removed_stay w w' old.core new.core t l.log l.left l.lost (let up = next.above_version in let f = l.from in omega (arith, up, f)) keeps files read old.core.seqno small next.above_records (l.counts tt) (sym from ∙ sym l.from) passed behind)

  -- it is refused, or its outcome is unknown
  module _ (commits : Upholds w w' old.core new.core) where
    nothing : (new.core ≡ old.core) ⊎ (new.core ≡ counted old.core) → LeadsBy opened journal notes t [] w w' old new
    nothing same = ⊎_elim
        (λ (e : new.core ≡ old.core). leads_nowhere opened journal notes t w w' old new is keeps commits.files doubt commits.passes (ap (saved_of journal notes) e) (ap log_from_of e) (ap (λ (c : Core). c.lost) e) (let q = ap (λ (c : Core). c.seqno) e in omega (arith, q)))
        (λ (e : new.core ≡ counted old.core). leads_nowhere opened journal notes t w w' old new is keeps commits.files doubt commits.passes (ap (saved_of journal notes) e) (ap log_from_of e) (ap (λ (c : Core). c.lost) e) (let q = ap (λ (c : Core). c.seqno) e in omega (arith, q)))
        same

    is_lost : Clears (Err CommitUnknown) old.core new.core → ClearDeeds (Err CommitUnknown) old.core new.core → (would : State) × LeadsBy opened journal (ClearLost old.core.seqno (length journal) ∷ notes) t (CommitLost (clear_of old) would ∷ []) w w' old new
    is_lost clears deeds =
        let core = clears.unknown refl in
        let lost = deeds.lost refl in
        let would = state_of (journal ++ Clear old.core.seqno ∷ []) lost.0 in
        let notes' = ClearLost old.core.seqno (length journal) ∷ notes in
        let tree : Saved = saved_of journal notes' new.core in
        let d = subst (λ (s : Saved). Deeds opened s (Lost (clear_of old) would ∷ []) tree) (sym is.tree) (lost.1 opened journal notes) in
        let number = ap (λ (s : State). s.latest.number) d.1.step.1 in
        let counter : new.core.seqno ≡ old.core.seqno + 1 = ap (λ (c : Core). c.seqno) core in
        let l = unknown opened t old.core.seqno (clear_of old) would d.0 tree (is_certain journal notes old.core old.doubted t is both.0 both.1) next number d.1 (sym d.2) in (
          would,
          leads_passing opened journal notes t w w' old new is keeps commits.files doubt commits.passes journal notes' (CommitLost (clear_of old) would ∷ []) t.log_from old.core.seqno ⊥ (subst (λ c. Lifted opened t (CommitLost (clear_of old) would ∷ []) tree t.log_from old.core.seqno c ⊥) (sym counter) l) (omega arith) (is.from ∙ sym (ap log_from_of core))
              (λ v h. let z : Some (cleared_in old.core).version ≡ Some v = sym (ap (λ (c : Core). c.lost) core) ∙ h in ap (λ (v : SeenVersion). v.log_from) (some_same (cleared_in old.core).version v z)) (omega (arith, counter)),
        )

    refusal : (e : Error) → Clears (Err e) old.core new.core → not_unknown e → (new.core ≡ old.core) ⊎ (new.core ≡ counted old.core)
    refusal e clears isnt = ⊎_elim
        (⊎_elim (λ m. clears.memory (ap Err m)) (λ m. inr (clears.store (ap Err m))))
        (⊎_elim (λ m. absurd (isnt (ap Err m))) (⊎_elim (λ m. inl (clears.before (inr (ap Err m)))) (λ m. inl (clears.before (inl (ap Err m))))))
        clears.only

    pub refused_acts : (e : Error) → Clears (Err e) old.core new.core → ClearDeeds (Err e) old.core new.core → ActsByClear (Err e) opened journal notes t w w' old new
    refused_acts CommitUnknown clears deeds = is_lost clears deeds
    refused_acts AfterCommit clears deeds = absurd (⊎_elim (⊎_elim (λ m. cc m) (λ m. cc m)) (⊎_elim (λ m. cc m) (⊎_elim (λ m. cc m) (λ m. cc m))) clears.only)
    refused_acts e clears deeds = nothing (refusal e clears (λ u. absurd (cc u)))

-- ---- the call

module _ {S : Type 0} (w w' : World) (old new : SeenLogged S) where
  -- it stands
  pub stands_acts : PlainNumbersAreRead → is_unsure old ≡ false → new.doubted ≡ old.doubted → old.core.seqno < 2 ^ 64 → (n : ℕ) (mid : Core) → Clears (Ok n) old.core mid → ClearDeeds (Ok n) old.core mid → new.core ≡ mid
      → UpholdsFiles w w' old.core new.core → Passed (log_from_of new.core) w w' → RemovesBehind w w' old.core new.core
      → (opened : List Entry) (journal : List Event) (notes : List Note) (t : Log) → IsLogOf journal notes old.core old.doubted t → KeepsLog w t → MayBeDrawn opened t old.core.seqno → LeadsByClear opened journal notes t w w' old new
  stands_acts read sure doubt small n mid clears deeds same files passed behind opened journal notes t is keeps next =
      let deed = subst (λ k. Deeds opened (saved_of journal notes old.core) (Done (Cleared k old.core.next_memtable) ∷ []) (saved_of (journal ++ Clear k ∷ []) (ClearedTo (length journal + 1) ∷ notes) mid)) clears.ok.0 (deeds.done opened journal notes) in
      let there = subst (λ c. Deeds opened (saved_of journal notes old.core) (Done (clear_of old) ∷ []) (saved_of (journal ++ Clear old.core.seqno ∷ []) (ClearedTo (length journal + 1) ∷ notes) c)) (sym same) deed in
      cleared_leads read w w' old new sure doubt small opened journal notes t is keeps next (same ∙ clears.ok.1) there files passed behind

-- the same of a tree's clear, and a removal of records after it
pub cleared_acts : {S : Type 0} (world : S → World) (tree mid : Seen S) (numbers : List ℕ) (doubted : Bool) (new seen : SeenLogged S) → logged_with tree numbers doubted ≡ seen → PlainNumbersAreRead → is_unsure seen ≡ false → new.doubted ≡ doubted → seen.core.seqno < 2 ^ 64
    → (n : ℕ) → Clears (Ok n) tree.core mid.core → ClearDeeds (Ok n) tree.core mid.core → new.core ≡ mid.core → LeavesLogged world seen new → ClearsAct (Ok n) (world seen.store) (world new.store) seen new
cleared_acts world tree mid numbers doubted new seen view read sure doubt small n clears deeds same left =
    subst (λ t. is_unsure t ≡ false → t.core.seqno < 2 ^ 64 → LeavesLogged world t new → ClearsAct (Ok n) (world t.store) (world new.store) t new) view
    (λ sure small left. stands_acts (world tree.store) (world new.store) (logged_with tree numbers doubted) new read sure doubt small n mid.core clears deeds same left.left.files left.left.passed left.left.either) sure small left

-- an outcome is unknown, and nothing is done
pub unsure_acts : {S : Type 0} (w : World) (old : SeenLogged S) → Upholds w w old.core old.core → ClearsAct (Err Unrecoverable) w w old old
unsure_acts w old still opened journal notes t is keeps next = leads_nowhere opened journal notes t w w old old is keeps still.files refl still.passes refl refl refl (omega arith)
