-- The counter never falls in a compaction.
use Rattle.std.proofs.Common.{◌≡◌, ◌⊎◌, ⊎_elim, inl, inr, ℕ, ◌≤◌, Bool, true, false, Option, Some, None, IsSome, Result, Ok, Err, IfErr, refl, sym, ap, subst, arith}
use Rattle.lsm_below.specs.declared.error.Error.{Error}
use Rattle.lsm_below.specs.declared.error.Error.TheVariants.{OutOfMemory, Store, CommitUnknown, OutOfNumbers, TooManyRuns, AfterCommit}
use Rattle.lsm_checks.specs.declared.choice.Why.{Why}
use Rattle.lsm_compaction.specs.Merges.{SeenCompaction}
use Rattle.lsm_pick.specs.declared.bounds.OwnedBounds.{OwnedBounds}
use Rattle.lsm_pick.specs.declared.choice.Choice.{Choice}
use Rattle.lsm_pick.specs.declared.choice.Choice.TheVariants.{DoNothing, Move, Merge, Drop}
use Rattle.lsm_pick.specs.declared.choice.ChooseError.{ChooseError}
use Rattle.lsm_pick.specs.Simple.{are_reversed}
use Rattle.lsm_versions.specs.Levels.{SeenVersion}
use Rattle.lsm_state.specs.declared.compaction.Options.{Options}
use Rattle.lsm_state.specs.declared.compaction.Begun.{Begun}
use Rattle.lsm_state.specs.declared.compaction.Begun.TheVariants.{DidNothing, Declined, Installed, Job}
use Rattle.lsm_state.specs.declared.compaction.Finished.{Finished}
use Rattle.lsm_state.specs.Core.{Core}
use Rattle.lsm_state.specs.Commits.{counted}
use Rattle.lsm_state.specs.Flushes.{with_next_table}
use Rattle.lsm_state.specs.Settling.{SettlesSome}
use Rattle.lsm_state.specs.Compactions.{Relation, Does, BeginsChoice, BeginsCompaction, reason_of, closed, Spends, Ends, EndsFor, Finishes}
use Rattle.lsm_state.specs.WholeCompactions.{Completes, Follows, CompactsChoice, Compacts, DropsRange}

abbrev Rises : Core → Core → Type 0
Rises old new = old.seqno ≤ new.seqno

same : (old new : Core) → new ≡ old → Rises old new
same old new h = let q = ap (λ (c : Core). c.seqno) h in omega (arith, q)

more : (old new : Core) → new ≡ counted old → Rises old new
more old new h = let q = ap (λ (c : Core). c.seqno) h in omega (arith, q)

-- ---- a version that is to be installed

abbrev IsOutcome : Error → Type 0
IsOutcome e = ((e ≡ OutOfMemory) ⊎ ((e ≡ Store) ⊎ (e ≡ CommitUnknown))) ⊎ ((e ≡ OutOfNumbers) ⊎ ((e ≡ TooManyRuns) ⊎ (e ≡ AfterCommit)))

settled : {T : Type 0} (P : SeenVersion → Type 0) (w : ℕ) (r : Result T Error) (old new : Core) → SettlesSome P w r old new → IfErr r IsOutcome → Rises old new
settled P w (Ok x) old new s only = let q = ap (λ (c : Core). c.seqno) s.ok.2.rest in omega (arith, q)
settled P w (Err e) old new s only =
    ⊎_elim
    (⊎_elim
    (λ m. ⊎_elim (same old new) (more old new) (s.memory (ap Err m)))
    (⊎_elim
    (λ m. ⊎_elim (same old new) (more old new) (s.store (ap Err m)))
    (λ m. let q = ap (λ (c : Core). c.seqno) (s.unknown (ap Err m)).2 in omega (arith, q))))
    (⊎_elim
    (λ m. same old new (s.before (inl (ap Err m))))
    (⊎_elim
    (λ m. same old new (s.before (inr (ap Err m))))
    (λ m. let q = ap (λ (c : Core). c.seqno) (s.after (ap Err m)).3.rest in omega (arith, q))))
    only

-- ---- a choice

does : (choice : Choice) (o : Options) (r : Result Begun Error) (old new : Core) → Does choice o r old new → Rises old new
does DoNothing o r old new d = same old new d.1
does (Move input) o r old new d = settled _ _ r old new d.settles d.only
does (Merge input) o (Ok b) old new d = let q = ap (λ (c : Core). c.seqno) d.ok in omega (arith, q)
does (Merge input) o (Err e) old new d = same old new d.err
does (Drop ids) o r old new d = settled _ _ r old new d.settles d.only

pub begins_choice : (choice : Choice) (o : Options) (r : Result Begun Error) (old new : Core) → BeginsChoice choice o r old new → Rises old new
begins_choice choice o r old new b = by_lost old.lost refl
  where
    by_reason : old.lost ≡ None → (why : Option Why) → reason_of choice old ≡ why → Rises old new
    by_reason certain None is = does choice o r old new (b.does certain is)
    by_reason certain (Some why) is = same old new (b.declines why certain is).1

    by_lost : (l : Option SeenVersion) → old.lost ≡ l → Rises old new
    by_lost None is = by_reason is (reason_of choice old) refl
    by_lost (Some v) is = same old new (b.uncertain (subst (λ (p : Option SeenVersion). IsSome p) (sym is) refl))

pub begins_compaction : (may_choose : Relation Choice) (may_refuse : Relation ChooseError) (o : Options) (r : Result Begun Error) (old new : Core) → BeginsCompaction may_choose may_refuse o r old new → Rises old new
begins_compaction may_choose may_refuse o r old new b = by_lost old.lost refl
  where
    by_lost : (l : Option SeenVersion) → old.lost ≡ l → Rises old new
    by_lost None is = ⊎_elim (λ c. begins_choice c.0 o r old new c.2) (λ e. same old new e.3) (b.chosen is)
    by_lost (Some v) is = same old new (b.uncertain (subst (λ (p : Option SeenVersion). IsSome p) (sym is) refl))

-- ---- a merge

pub spends : (job : SeenCompaction) (old new : Core) → Spends job old new → Rises old new
spends job old new s = ⊎_elim (λ c. let q = ap (λ (k : Core). k.seqno) c.1 in omega (arith, q)) (λ c. same old new c.1) s

ends_for : (job : SeenCompaction) (why : Option Why) (r : Result Finished Error) (old new : Core) → EndsFor job why r old new → Rises old new
ends_for job None r old new e = settled _ _ r (with_next_table e.0.table old) new e.0.settles e.0.only
ends_for job (Some why) r old new e = same old new e.1

ends : (job : SeenCompaction) (r : Result Finished Error) (old new : Core) → Ends job r old new → Rises old new
ends job r old new e = ⊎_elim (λ m. same old new m.1) (λ w. ends_for job w.0 r old new w.2) e

pub finishes : (job : SeenCompaction) (r : Result Finished Error) (old new : Core) → Finishes job r old new → Rises old new
finishes job r old new f = by_lost old.lost refl
  where
    by_lost : (l : Option SeenVersion) → old.lost ≡ l → Rises old new
    by_lost None is = ⊎_elim (λ n. same old new n.1.1) (λ e. ends job r (closed job.number old) new e.1) (f.ends is)
    by_lost (Some v) is = spends job old new (f.uncertain (subst (λ (p : Option SeenVersion). IsSome p) (sym is) refl))

completes : (job : SeenCompaction) (r : Result Begun Error) (old new : Core) → Completes job r old new → Rises old new
completes job r old new c = ⊎_elim (λ s. spends job old new s.1) (λ e. finishes job e.0 old new e.1) c

-- ---- a compaction in one call

follows : (begun r : Result Begun Error) (mid new : Core) → Follows begun r mid new → Rises mid new
follows (Ok DidNothing) r mid new f = same mid new f.1
follows (Ok (Declined why)) r mid new f = same mid new f.1
follows (Ok Installed) r mid new f = same mid new f.1
follows (Ok (Job job)) r mid new f = completes job r mid new f
follows (Err e) r mid new f = same mid new f.1

pub compacts_choice : (choice : Choice) (o : Options) (r : Result Begun Error) (old new : Core) → CompactsChoice choice o r old new → Rises old new
compacts_choice choice o r old new c =
    let a = begins_choice choice o c.begun old c.mid c.begins in
    let b = follows c.begun r c.mid new c.follows in
    omega (arith, a, b)

pub compacts : (may_choose : Relation Choice) (may_refuse : Relation ChooseError) (o : Options) (r : Result Begun Error) (old new : Core) → Compacts may_choose may_refuse o r old new → Rises old new
compacts may_choose may_refuse o r old new c =
    let a = begins_compaction may_choose may_refuse o c.begun old c.mid c.begins in
    let b = follows c.begun r c.mid new c.follows in
    omega (arith, a, b)

pub drops_range : (bounds : OwnedBounds) (r : Result Begun Error) (old new : Core) → DropsRange bounds r old new → Rises old new
drops_range bounds r old new d = by_lost old.lost refl
  where
    by_order : old.lost ≡ None → (b : Bool) → are_reversed bounds ≡ b → Rises old new
    by_order certain true is = same old new (d.reversed certain is).1
    by_order certain false is = compacts _ _ _ r old new (d.drops certain is)

    by_lost : (l : Option SeenVersion) → old.lost ≡ l → Rises old new
    by_lost None is = by_order is (are_reversed bounds) refl
    by_lost (Some v) is = same old new (d.uncertain (subst (λ (p : Option SeenVersion). IsSome p) (sym is) refl)).1
