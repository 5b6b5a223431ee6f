-- After a removal of records no file is left of the versions and orphans of which a commit, or an opening, before it left none.
use Rattle.std.proofs.Common.{◌≡◌, ◌≢◌, ◌⊎◌, inl, inr, refl, ℕ, Bool, true, false, List, get_or, drop, length, None, Contains, arith, sym, ap, ◌∙◌, subst}
use Rattle.lsm_below.specs.Each.{each_weaker}
use Rattle.lsm_store.specs.World.{World}
use Rattle.lsm_manifest.specs.Kinds.{is_orphan}
use Rattle.lsm_manifest.specs.Names.{version_name}
use Rattle.lsm_commit.specs.Causes.{HasCause, causes_then}
use Rattle.lsm_commit.specs.Foreign.{IsForeign}
use Rattle.lsm_commit.proofs.PassingOpened.{no_orphan}
use Rattle.lsm_log.specs.LogNames.{record_name}
use Rattle.lsm_log.specs.Changes.{IsNoneOf}
use Rattle.lsm_flush.specs.declared.jobs.Registered.{Registered}
use Rattle.lsm_parts.specs.declared.version.super_version.SuperVersion.{SuperVersion}
use Rattle.lsm_parts.specs.History.{SeenHistory, versions_of}
use Rattle.lsm_state.specs.Core.{Core, Seen}
use Rattle.lsm_state.specs.Cleaning.{LeavesNoVersions}
use Rattle.lsm_logged.specs.Keeping.{SeenLogged}
use Rattle.lsm_logged.specs.Removing.{KeepsRest}
use Rattle.lsm_logged.proofs.LogNames.{record_is_foreign}
use Rattle.lsm_logged.proofs.Seen.{logged_with}

version_apart : (i k : ℕ) → version_name i ≢ record_name k
version_apart i k e = let first = ap (λ (l : List ℕ). get_or l 0 0) e in omega (arith, first)

-- an orphan is no record
pub orphan_apart : (id : ℕ) (ids n numbers : List ℕ) → is_orphan id ids n ≡ true → IsNoneOf (Contains numbers) n
orphan_apart id ids n numbers orphan k known e = let z : true ≡ false = sym orphan ∙ no_orphan id ids n (subst IsForeign (sym e) (record_is_foreign k)) in absurd (cc z)

still_gone : (numbers : List ℕ) (mid new : World) (old core : SeenHistory) → KeepsRest numbers mid new → LeavesNoVersions mid old core → LeavesNoVersions new old core
still_gone numbers mid new old core keeps left =
    each_weaker (λ (sv : SuperVersion). mid.gives (version_name sv.version.id) ≡ None) (λ sv. new.gives (version_name sv.version.id) ≡ None)
    (λ sv none. keeps (version_name sv.version.id) (λ k known e. version_apart sv.version.id k e) ∙ none) (drop (length core.older) (versions_of old)) left

-- the same of the logged tree in which the tree stood before the commit
pub gone_behind : {S : Type 0} (world : S → World) (tree mid : Seen S) (numbers : List ℕ) (doubted : Bool) (new seen : SeenLogged S) → logged_with tree numbers doubted ≡ seen → new.core ≡ mid.core → KeepsRest numbers (world mid.store) (world new.store)
    → LeavesNoVersions (world mid.store) tree.core.history mid.core.history → LeavesNoVersions (world new.store) seen.core.history new.core.history
gone_behind world tree mid numbers doubted new seen view same keeps left =
    subst (λ t. LeavesNoVersions (world new.store) t.core.history new.core.history) view
    (subst (λ (k : Core). LeavesNoVersions (world new.store) tree.core.history k.history) (sym same) (still_gone numbers (world mid.store) (world new.store) tree.core.history mid.core.history keeps left))

-- a removal of records after a registered flush: what is unclean then was so before, or became so
pub cleaned_cause : (flushed r : Registered) (old mid new : World) → HasCause (flushed.cleaned ≡ false) old mid → HasCause (flushed.cleaned ≡ true × r.cleaned ≡ false) mid new → HasCause (r.cleaned ≡ false) old new
cleaned_cause flushed r old mid new first second = causes_then _ _ _ old mid new first second (either flushed.cleaned refl)
  where
    either : (b : Bool) → flushed.cleaned ≡ b → r.cleaned ≡ false → (flushed.cleaned ≡ false) ⊎ (flushed.cleaned ≡ true × r.cleaned ≡ false)
    either true is unclean = inr (is, unclean)
    either false is unclean = inl is
