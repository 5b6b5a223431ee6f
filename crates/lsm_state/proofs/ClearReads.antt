-- What a clear leaves of reads.
use Rattle.std.proofs.Common.{ℕ, ◌+◌, [], ◌∷◌, ◌++◌, length, Result, Ok, Err, sym, ap, ◌∙◌, subst, append-nil}
use Rattle.lsm_below.specs.declared.error.Error.{Error}
use Rattle.lsm_model.specs.Journal.{InOrder}
use Rattle.lsm_model.specs.Steps.{State, Cleared, StaysAt}
use Rattle.lsm_model.specs.Sound.{Holds}
use Rattle.lsm_model.specs.Soundness.{Soundness}
use Rattle.lsm_model.specs.Beginnings.{ClearedTo, ClearLost, Done, Lost}
use Rattle.lsm_model.specs.declared.journal.JournalEntry.TheVariants.{Clear}
use Rattle.lsm_state.specs.Core.{Core, state_of}
use Rattle.lsm_state.specs.Deeds.{saved_of}
use Rattle.lsm_state.specs.CompactionReads.{SparesReads, IsAny, AreSparedBy}
use Rattle.lsm_state.specs.Clearing.{IsClearDeed, IsLostClear, ClearDeeds, clear_events, ClearsKeepReads}
use Rattle.lsm_state.proofs.Outcomes.{Outcome, IsDone, IsLost, IsNothing, outcome_of}
use Rattle.lsm_state.proofs.CompactionReads.{nothing}

module _ (theory : Soundness) (old new : Core) where
  abbrev Goal : Result ℕ Error → Type 0
  Goal r = SparesReads IsAny (clear_events r) (AreSparedBy (clear_events r)) old new

  answered : (n : ℕ) → IsClearDeed n old new → Goal (Ok n)
  answered n deed = record {
    right = λ opened start journal before order holds.
        theory.kept.deeds opened start (saved_of journal [] old) (Done (Cleared n old.next_memtable) ∷ []) (saved_of (journal ++ Clear n ∷ []) (ClearedTo (length journal + 1) ∷ []) new) (deed opened journal []) order holds;
    stays = λ opened start journal before order holds s spared.
        let d = deed opened journal [] in
        let is = ap (λ t. t.state) d.2 in
        subst (StaysAt s (state_of journal old)) (sym is) (theory.spares.step opened start s (state_of journal old) (Cleared n old.next_memtable) d.0.state d.1.step (subst (λ t. InOrder opened t.journal) is order) spared.0 holds);
  }

  lost : (e : Error) → IsLostClear old new → Goal (Err e)
  lost e deed = record {
    right = λ opened start journal before order holds.
        subst (λ j. Holds opened start (state_of j new)) (sym (append-nil journal))
        (theory.kept.deeds opened start (saved_of journal [] old) (Lost (Cleared old.seqno old.next_memtable) (state_of (journal ++ Clear old.seqno ∷ []) deed.0) ∷ []) (saved_of journal (ClearLost old.seqno (length journal) ∷ []) new)
        (deed.1 opened journal []) (subst (InOrder opened) (append-nil journal) order) holds);
    stays = λ opened start journal before order holds s spared.
        let d = deed.1 opened journal [] in
        let is = ap (λ t. t.state) d.2 ∙ d.1.state in
        theory.spares.same s (state_of journal old) (state_of journal new) (ap (λ (t : State). t.mems) is) (ap (λ (t : State). t.latest) is) (ap (λ (t : State). t.older) is);
  }

  clears : (r : Result ℕ Error) → ClearDeeds r old new → Goal r
  clears (Ok n) deeds = answered n deeds.done
  clears (Err e) deeds = by_outcome (outcome_of e)
    where
      by_outcome : Outcome e → Goal (Err e)
      by_outcome (IsDone is) = nothing theory old new IsAny (AreSparedBy []) (deeds.refused (λ h. cc (is, h)))
      by_outcome (IsLost is) = lost e (deeds.lost (ap Err is))
      by_outcome (IsNothing after known) = nothing theory old new IsAny (AreSparedBy []) (deeds.refused known)

pub clears_keep_reads : Soundness → ClearsKeepReads
clears_keep_reads theory = record { clears = λ r old new deeds. clears theory old new r deeds }
