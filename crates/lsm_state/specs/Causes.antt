-- Which answers of a tree's calls blame the store.
use Rattle.std.specs.Prelude.{◌≡◌, ℕ, false, Option, Some, None, Result, Ok, Err}
use Rattle.lsm_below.specs.declared.error.Error.{Error}
use Rattle.lsm_flush.specs.declared.jobs.Registered.{Registered}
use Rattle.lsm_commit.specs.Causes.{BlamesStore, Blames}
use Rattle.lsm_state.specs.declared.compaction.Begun.{Begun}
use Rattle.lsm_state.specs.declared.compaction.Begun.TheVariants.{Job}

-- a refusal that comes with something beside it
abbrev pub BlamesBeside : {T X : Type 0} → Result T (Error × X) → Type 0
BlamesBeside (Ok x) = ⊥
BlamesBeside (Err e) = BlamesStore e.0

-- a flush that is registered: the clean-up after it wasn't whole
abbrev pub BlamesOrUnclean : Result Registered Error → Type 0
BlamesOrUnclean (Ok a) = a.cleaned ≡ false
BlamesOrUnclean (Err e) = BlamesStore e

-- so of what a flush answers
abbrev pub IsUnclean : Option (ℕ × Registered) → Type 0
IsUnclean None = ⊥
IsUnclean (Some p) = p.1.cleaned ≡ false

abbrev pub BlamesOrUncleanFlush : Result (Option (ℕ × Registered)) Error → Type 0
BlamesOrUncleanFlush (Ok a) = IsUnclean a
BlamesOrUncleanFlush (Err e) = BlamesStore e

abbrev pub BlamesOrUncleanBehind : Result (Option ℕ × Option (ℕ × Registered)) (Error × Option ℕ) → Type 0
BlamesOrUncleanBehind (Ok a) = IsUnclean a.1
BlamesOrUncleanBehind (Err e) = BlamesStore e.0

-- the end of a merge, where a compaction began with its job
abbrev pub BlamesEnd : Result Begun Error → Result Begun Error → Type 0
BlamesEnd (Ok (Job job)) r = Blames r
BlamesEnd _ r = ⊥
