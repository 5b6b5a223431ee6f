-- Calls of a logged tree that are no acts of the theory.
use Rattle.std.proofs.Common.{◌≡◌, ◌∙◌, ⊎_elim, ℕ, ◌+◌, Bool, List, Option, Some, None, IsSome, Result, Ok, Err, OnOk, OnErr, IsErrOf, refl, sym, ap, subst, arith}
use Rattle.lsm_below.specs.declared.error.Error.{Error}
use Rattle.lsm_below.specs.declared.error.Error.TheVariants.{Unrecoverable, FlushOpen}
use Rattle.lsm_store.specs.World.{World}
use Rattle.lsm_model.specs.Journal.{Event}
use Rattle.lsm_model.specs.Beginnings.{Note}
use Rattle.lsm_compaction.specs.Merges.{SeenCompaction}
use Rattle.lsm_versions.specs.Levels.{SeenVersion}
use Rattle.lsm_commit.specs.Foreign.{AtRest}
use Rattle.lsm_flush.specs.Jobs.{SeenJob, SeenMerged, SeenWritten, SeenOpen}
use Rattle.lsm_state.specs.Core.{Core, Seen, versions_left, written_by, written_of}
use Rattle.lsm_state.specs.Deeds.{saved_of}
use Rattle.lsm_state.specs.Commits.{Upholds}
use Rattle.lsm_state.specs.Compactions.{closed, Spends}
use Rattle.lsm_state.specs.Flushes.{Begins, WritesTables, begun, spent, with_next_table, wrote}
use Rattle.lsm_state.proofs.Registering.{spent_upholds}
use Rattle.lsm_state.proofs.Upholding.{upheld_still}
use Rattle.lsm_logged.specs.Keeping.{SeenLogged}
use Rattle.lsm_logged.specs.Removing.{log_from_of}
use Rattle.lsm_logged.specs.Acting.{ActsNot}
use Rattle.lsm_logged.proofs.Led.{leads_nowhere}
use Rattle.lsm_logged.proofs.Seen.{logged_with}

-- of what is done to the tree the theory sees nothing
module _ {S : Type 0} (w w' : World) (old new : SeenLogged S) (doubt : new.doubted ≡ old.doubted) (commits : Upholds w w' old.core new.core) where
  unseen : (core : Core) → new.core ≡ core → ((journal : List Event) (notes : List Note) → saved_of journal notes core ≡ saved_of journal notes old.core) → log_from_of core ≡ log_from_of old.core → core.lost ≡ old.core.lost → core.seqno ≡ old.core.seqno → ActsNot w w' old new
  unseen core e tree from lost counter opened journal notes t is keeps =
      leads_nowhere opened journal notes t w w' old new is keeps commits.files doubt commits.passes (ap (saved_of journal notes) e ∙ tree journal notes) (ap log_from_of e ∙ from) (ap (λ (c : Core). c.lost) e ∙ lost) (let q = ap (λ (c : Core). c.seqno) e in omega (arith, q, counter))

  -- the tree is as it was
  same_not : new.core ≡ old.core → ActsNot w w' old new
  same_not e = unseen old.core e (λ journal notes. refl) refl refl refl

  -- tables are written for a job
  wrote_not : (job : SeenMerged) (r : Result SeenWritten (Error × SeenMerged)) → WritesTables job r old.core new.core → ActsNot w w' old new
  wrote_not job (Ok x) f = unseen (wrote job.job.number x.tables new.core.next_table old.core) f.ok (λ journal notes. refl) refl refl refl
  wrote_not job (Err x) f = unseen (with_next_table new.core.next_table old.core) f.err (λ journal notes. refl) refl refl refl

-- a call that is refused before it does anything, of which a record has unknown outcome
pub unsure_not : {S : Type 0} (world : S → World) (tree : Seen S) (numbers : List ℕ) (doubted : Bool) (seen : SeenLogged S) → logged_with tree numbers doubted ≡ seen → Upholds (world tree.store) (world tree.store) tree.core tree.core → ActsNot (world seen.store) (world seen.store) seen seen
unsure_not world tree numbers doubted seen view upheld =
    subst (λ t. ActsNot (world t.store) (world t.store) t t) view (same_not (world tree.store) (world tree.store) (logged_with tree numbers doubted) (logged_with tree numbers doubted) refl upheld refl)

-- tables are written for a job
pub written_not : {S : Type 0} (world : S → World) (tree mid : Seen S) (numbers : List ℕ) (doubted : Bool) (seen : SeenLogged S) → logged_with tree numbers doubted ≡ seen → Upholds (world tree.store) (world mid.store) tree.core mid.core
    → (job : SeenMerged) (r : Result SeenWritten (Error × SeenMerged)) → WritesTables job r tree.core mid.core → ActsNot (world seen.store) (world mid.store) seen (logged_with mid numbers doubted)
written_not world tree mid numbers doubted seen view upheld job r writes =
    subst (λ t. ActsNot (world t.store) (world mid.store) t (logged_with mid numbers doubted)) view (wrote_not (world tree.store) (world mid.store) (logged_with tree numbers doubted) (logged_with mid numbers doubted) refl upheld job r writes)

-- ---- the store is as it was

-- no other flush is open where one is begun
-- no other one is open
none_open : (job : SeenJob) (old new : Core) → Begins (Ok (Some job)) old new → old.flush ≡ None
none_open job old new b = by_flush old.flush refl
  where
    certain : old.lost ≡ None
    certain = by_lost old.lost refl
      where
        by_lost : (l : Option SeenVersion) → old.lost ≡ l → old.lost ≡ None
        by_lost None is = is
        by_lost (Some v) is = let z : IsErrOf {T = Option SeenJob} (Ok (Some job)) Unrecoverable = b.unrecoverable.1 ((λ e. let y = b.none e in cc y), subst (λ (p : Option SeenVersion). IsSome p) (sym is) refl) in absurd (cc z)

    by_flush : (f : Option SeenOpen) → old.flush ≡ f → old.flush ≡ None
    by_flush None is = is
    by_flush (Some f) is = let z : IsErrOf {T = Option SeenJob} (Ok (Some job)) FlushOpen = b.flush_open.1 ((λ e. let y = b.none e in cc y), (certain, subst (λ (p : Option SeenOpen). IsSome p) (sym is) refl)) in absurd (cc z)

-- the store was read, and is at rest
module _ {S : Type 0} (world : S → World) (tree mid : Seen S) (numbers : List ℕ) (doubted : Bool) (seen : SeenLogged S) (view : logged_with tree numbers doubted ≡ seen) (store : S) (read : store ≡ tree.store) (at_rest : AtRest (world store)) (same : mid.store ≡ tree.store) where
  abbrev w : World
  w = world tree.store

  abbrev old : SeenLogged S
  old = logged_with tree numbers doubted

  abbrev new : SeenLogged S
  new = logged_with mid numbers doubted

  rest : AtRest w
  rest = subst (λ s. AtRest (world s)) read at_rest

  -- what is known of the trees with one store
  seen_so : ActsNot w w old new → ActsNot (world seen.store) (world mid.store) seen new
  seen_so acts = subst (λ t. ActsNot (world t.store) (world mid.store) t new) view (subst (λ s. ActsNot w (world s) old new) (sym same) acts)

  still : (core : Core) → mid.core ≡ core → versions_left core ≡ versions_left tree.core → written_of core ≡ written_of tree.core → Upholds w w tree.core mid.core
  still core e versions written = subst (Upholds w w tree.core) (sym e) (upheld_still w tree.core core versions written rest)

  -- a moment is set
  pub moment_not : (moment : ℕ) → mid.core ≡ record (tree.core) { moment = moment } → ActsNot (world seen.store) (world mid.store) seen new
  moment_not moment e = let core : Core = record (tree.core) { moment = moment } in seen_so (unseen w w old new refl (still core e refl refl) core e (λ journal notes. refl) refl refl refl)

  -- an id of a table is drawn
  pub drawn_not : (r : Result ℕ Error) → OnOk r (mid.core ≡ with_next_table (tree.core.next_table + 1) tree.core) → OnErr r (mid.core ≡ tree.core) → ActsNot (world seen.store) (world mid.store) seen new
  drawn_not (Ok id) used err = let core = with_next_table (tree.core.next_table + 1) tree.core in seen_so (unseen w w old new refl (still core used refl refl) core used (λ journal notes. refl) refl refl refl)
  drawn_not (Err x) used err = seen_so (same_not w w old new refl (still tree.core err refl refl) err)

  -- a flush is given up
  pub spent_not : (n : ℕ) → mid.core ≡ spent n tree.core → ActsNot (world seen.store) (world mid.store) seen new
  spent_not n e = seen_so (unseen w w old new refl (subst (Upholds w w tree.core) (sym e) (spent_upholds w tree.core n rest)) (spent n tree.core) e (λ journal notes. refl) refl refl refl)

  -- a compaction is given up
  pub closed_not : (job : SeenCompaction) → Spends job tree.core mid.core → ActsNot (world seen.store) (world mid.store) seen new
  closed_not job spends = seen_so (⊎_elim
      (λ open_one. let core = closed job.number tree.core in unseen w w old new refl (still core open_one.1 refl refl) core open_one.1 (λ journal notes. refl) refl refl refl)
      (λ none. same_not w w old new refl (still tree.core none.1 refl refl) none.1)
      spends)

  -- a flush is begun
  pub begun_not : (r : Result (Option SeenJob) Error) → Begins r tree.core mid.core → ActsNot (world seen.store) (world mid.store) seen new
  begun_not (Ok None) b = let e = (b.some refl).1 in seen_so (same_not w w old new refl (still tree.core e refl refl) e)
  begun_not (Err x) b = seen_so (same_not w w old new refl (still tree.core b.err refl refl) b.err)
  begun_not (Ok (Some job)) b = seen_so (unseen w w old new refl (still (begun tree.core) b.begins.1 refl (sym (ap written_by (none_open job tree.core mid.core b)))) (begun tree.core) b.begins.1 (λ journal notes. refl) refl refl refl)
