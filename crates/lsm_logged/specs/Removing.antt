-- Records that the version has passed are removed.
use Rattle.std.specs.Prelude.{◌≡◌, ◌⊎◌, ℕ, ◌<◌, ◌≤◌, List, take, drop, Option, None, Result, OnOk, Contains}
use Rattle.std.specs.List.{All}
use Rattle.lsm_below.specs.declared.error.Error.{Error}
use Rattle.lsm_store.specs.World.{Image, World, LeavesOnly}
use Rattle.lsm_commit.specs.Foreign.{IsForeign}
use Rattle.lsm_log.specs.LogNames.{record_name}
use Rattle.lsm_log.specs.Changes.{IsBelow, IsOneOf, IsNoneOf, ClearsRecords, AreCleared}
use Rattle.lsm_state.specs.Core.{Core}
use Rattle.lsm_logged.specs.Keeping.{AreKnown}

-- from which number on the latest version reads the log
abbrev pub log_from_of : Core → ℕ
log_from_of c = c.history.latest.version.log_from

-- the numbers from here on are left of numbers that rise
pub record Forgets (from : ℕ) (old new : List ℕ) : Type 0 where
  pub at : ℕ
  pub items : new ≡ drop at old
  pub gone : All (λ k. k < from) (take at old)
  pub kept : All (λ k. from ≤ k) new

-- of these numbers below this one no record is left
abbrev pub AreGone : World → ℕ → List ℕ → Type 0
AreGone w from numbers = (k : ℕ) → Contains numbers k → k < from → w.gives (record_name k) ≡ None

-- which records are known after a call that may remove some
pub record KeepsKnown (old new : World) (numbers left : List ℕ) : Type 0 where
  -- a number is forgotten only where no record of it is left
  pub forgotten : (k : ℕ) → Contains numbers k → Contains left k ⊎ (new.gives (record_name k) ≡ None)
  -- each record that is there is known, where each was
  pub known : AreKnown old numbers → AreKnown new left

-- names that aren't those of records with these numbers give what they gave
abbrev pub KeepsRest : List ℕ → World → World → Type 0
KeepsRest numbers old new = (n : List ℕ) → IsNoneOf (Contains numbers) n → new.gives n ≡ old.gives n

-- records below `log_from` go, and nothing else, nor is another one brought back; after Ok none of these numbers is left below
pub record RemovesPassed {T : Type 0} (from : ℕ) (numbers : List ℕ) (old new : World) (r : Result T Error) : Type 0 where
  pub clears : ClearsRecords (IsBelow from) old new
  pub others : KeepsRest numbers old new
  pub any_moment : LeavesOnly old new (AreCleared (IsBelow from) old)
  pub gone : OnOk r (AreGone new from numbers)

-- a name has what it could have before, or it is that of a record below this number, and absent
abbrev pub IsOldOrPassed : World → ℕ → List ℕ → Option (List ℕ) → Type 0
IsOldOrPassed old from n c = old.may n c ⊎ ((c ≡ None) × IsOneOf (IsBelow from) n)

-- the same of each name that is none of the tree's own
abbrev pub HasOldOrPassed : World → ℕ → Image → Type 0
HasOldOrPassed old from image = (n : List ℕ) → IsForeign n → IsOldOrPassed old from n (image n)

-- of names that are none of the tree's own, records below this number may go, and nothing else changes
pub record Passed (from : ℕ) (old new : World) : Type 0 where
  pub gives : (n : List ℕ) → IsForeign n → IsNoneOf (IsBelow from) n → new.gives n ≡ old.gives n
  pub may : (n : List ℕ) (c : Option (List ℕ)) → IsForeign n → new.may n c → IsOldOrPassed old from n c
  pub any_moment : LeavesOnly old new (HasOldOrPassed old from)
