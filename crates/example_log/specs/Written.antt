-- What an acknowledged batch leaves of a new tree, and what may be left of that: what the functions of `lives` hand on.
use Rattle.std.specs.Prelude.{◌≡◌, ℕ, ◌≤◌, false, List, [], map, None}
use Rattle.lsm_logged.specs.Keys.{Bytes}
use Rattle.lsm_logged.specs.Memory.{MemStore, world_of}
use Rattle.lsm_logged.specs.World.{World, IsImage}
use Rattle.lsm_logged.specs.Ops.{op_entries}
use Rattle.lsm_logged.specs.Op.{Op}
use Rattle.lsm_logged.specs.JournalEntry.TheVariants.{Write}
use Rattle.lsm_logged.specs.Levels.{empty_levels}
use Rattle.lsm_logged.specs.Foreign.{AtRest}
use Rattle.lsm_logged.specs.Stored.{IsStored}
use Rattle.lsm_logged.specs.Logs.{Logged as Log, IsBatched}
use Rattle.lsm_logged.specs.Records.{LogImage}
use Rattle.lsm_logged.specs.Replays.{IsReopened}
use Rattle.lsm_logged.specs.Core.{Core, versions_left, written_of}
use Rattle.lsm_logged.specs.Keeping.{IsLogOf, KeepsLog}
use Rattle.lsm_logged.specs.Opening.{CanBeSettled}
use Rattle.lsm_logged.specs.Writing.{batch_of}

-- nothing, read from this number on
abbrev pub fresh_image : ℕ → LogImage
fresh_image from = record { tables = []; log_from = from; records = [] }

-- a tree without tables that has one batch, which is recorded in its store
pub record HasOne (ops : List (Bytes × Op)) (c : Core) (w : World) : Type 0 where
  pub number : ℕ
  pub from : ℕ
  pub first : Log
  pub reopened : IsReopened (fresh_image from) first
  pub log : Log
  pub act : IsBatched [] first (batch_of number ops) log
  pub is : IsLogOf (map Write (op_entries number ops)) [] c false log
  pub keeps : KeepsLog w log
  pub certain : c.lost ≡ None
  pub levels : c.history.latest.version.levels ≡ empty_levels

-- the store of such a tree, between two calls
pub record HasWritten (ops : List (Bytes × Op)) (store : MemStore) : Type 0 where
  pub core : Core
  pub one : HasOne ops core (world_of store)
  pub stored : IsStored (world_of store) (versions_left core) (written_of core)
  pub rest : AtRest (world_of store)

-- what a crash, or the end of the process, may leave of it
pub record WasWritten (ops : List (Bytes × Op)) (left : MemStore) : Type 0 where
  pub before : MemStore
  pub was : HasWritten ops before
  pub may : IsImage (world_of before).may (world_of left).gives
  pub settles : (n : ℕ) → was.one.log.log_from ≤ n → CanBeSettled (world_of left) n
