-- What a clear keeps of a tree with its journal.
use Rattle.std.proofs.Common.{◌≡◌, ℕ, ◌+◌, ◌≤◌, List, [], ◌∷◌, ◌++◌, Result, Ok, Err, inl, inr, ⊎_elim, fold, refl, ap, ◌∙◌, arith}
use Rattle.std.specs.BTreeMap.{BTreeMap}
use Rattle.lsm_below.specs.Keys.{Bytes}
use Rattle.lsm_below.specs.declared.error.Error.{Error}
use Rattle.lsm_below.specs.declared.error.Error.TheVariants.{OutOfMemory, Store, CommitUnknown, Unrecoverable, OutOfNumbers}
use Rattle.lsm_model.specs.Soundness.{Soundness}
use Rattle.lsm_model.specs.Journal.{Event, floor_after}
use Rattle.lsm_model.specs.Views.{Placed}
use Rattle.lsm_model.specs.declared.journal.JournalEntry.TheVariants.{Clear}
use Rattle.lsm_state.specs.Core.{Core}
use Rattle.lsm_state.specs.Commits.{counted}
use Rattle.lsm_state.specs.Clearing.{Clears, clear_events, ClearsKeepReads}
use Rattle.lsm_journal.specs.NotedClears.{ClearsNoted}
use Rattle.lsm_recorded.specs.declared.marks.Mark.{Mark}
use Rattle.lsm_recorded.specs.Recorded.{IsRecorded, StaysBehind}
use Rattle.lsm_recorded.proofs.Watermarks.{still_marked}
use Rattle.lsm_recorded.proofs.GoingOn.{GoesOn}
use Rattle.lsm_recorded.proofs.CompactingLemmas.{spared_recorded}

-- whatever a clear answers, the counter is above what it told, and open merges stay
clears_go : (r : Result ℕ Error) (old new : Core) → Clears r old new → GoesOn (clear_events r) old new
clears_go (Ok n) old new c =
    let is : n ≡ old.seqno = c.ok.0 in
    let q : new.seqno ≡ old.seqno + 1 = ap (λ (x : Core). x.seqno) c.ok.1 in
    record { told = (is, refl); next = omega (arith, is, q); marked = λ journal. still_marked old new journal (Clear n ∷ []) (ap (λ (x : Core). x.merges) c.ok.1) }
clears_go (Err e) old new c =
    ⊎_elim
    (⊎_elim (λ (m : e ≡ OutOfMemory). ⊎_elim same more (c.memory (ap Err m))) (λ (s : e ≡ Store). more (c.store (ap Err s))))
    (⊎_elim
    (λ (u : e ≡ CommitUnknown). let is = c.unknown (ap Err u) in let q : new.seqno ≡ old.seqno + 1 = ap (λ (x : Core). x.seqno) is in nothing (omega (arith, q)) (ap (λ (x : Core). x.merges) is))
    (⊎_elim (λ (o : e ≡ OutOfNumbers). same (c.before (inr (ap Err o)))) (λ (u : e ≡ Unrecoverable). same (c.before (inl (ap Err u))))))
    c.only
  where
    nothing : old.seqno ≤ new.seqno → new.merges ≡ old.merges → GoesOn [] old new
    nothing le is = record { told = tt; next = le; marked = λ journal. still_marked old new journal [] is }

    same : new ≡ old → GoesOn [] old new
    same h = let q : new.seqno ≡ old.seqno = ap (λ (x : Core). x.seqno) h in nothing (omega (arith, q)) (ap (λ (x : Core). x.merges) h)

    more : new ≡ counted old → GoesOn [] old new
    more h = let q : new.seqno ≡ old.seqno + 1 = ap (λ (x : Core). x.seqno) h in nothing (omega (arith, q)) (ap (λ (x : Core). x.merges) h)

module _ (opened : List Placed) (least : ℕ) (marks : BTreeMap Bytes Mark) (theory : Soundness) (law : ClearsKeepReads) (low low' : ℕ) (old new : Core) (journal journal' : List Event) where
  -- a clear and what it tells keep what always holds
  pub clear_recorded : (r : Result ℕ Error) (events : List Event) → ClearsNoted r events old new → journal' ≡ journal ++ events → low' ≡ fold floor_after low events → IsRecorded opened least marks low old journal → IsRecorded opened least marks low' new journal' × StaysBehind journal journal' old new
  clear_recorded r events c told floored h =
      spared_recorded opened least marks theory low low' old new journal journal' (clear_events r) (law.clears r old new c.2) (clears_go r old new c.1) (told ∙ ap (λ es. journal ++ es) c.0) (floored ∙ ap (fold floor_after low) c.0) h
