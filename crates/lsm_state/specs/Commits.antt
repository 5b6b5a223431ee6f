-- What a commit makes of a tree, and of its files.
use Rattle.std.specs.Prelude.{◌≡◌, ℕ, ◌+◌, ◌≤◌, ◌^◌, max, Bool, true, false, List, ◌∷◌, ◌++◌, Some, Result, ◌⊎◌, OnOk, IfErr, IsErrOf}
use Rattle.lsm_below.specs.declared.error.Error.{Error}
use Rattle.lsm_below.specs.declared.error.Error.TheVariants.{OutOfMemory, Store, CommitUnknown, OutOfNumbers}
use Rattle.lsm_store.specs.World.{World}
use Rattle.lsm_memtable.specs.Memtables.{SeenMemtable, new_memtable}
use Rattle.lsm_commit.specs.Stored.{IsStored, Leaves}
use Rattle.lsm_commit.specs.Foreign.{Passes}
use Rattle.lsm_parts.specs.declared.version.super_version.SuperVersion.{SuperVersion}
use Rattle.lsm_parts.specs.History.{versions_of}
use Rattle.lsm_state.specs.Core.{Core, versions_left, written_of}

-- ---- files

-- where the files of a tree are stored, those of the other one are, and a crash meanwhile leaves a version of either
abbrev pub UpholdsFiles : World → World → Core → Core → Type 0
UpholdsFiles w w' old new = IsStored w (versions_left old) (written_of old) → IsStored w' (versions_left new) (written_of new) × Leaves w w' (versions_left old ++ versions_left new)

-- so it is of a tree's own files, and names that are none of its own are as they were
pub record Upholds (w w' : World) (old new : Core) : Type 0 where
  pub files : UpholdsFiles w w' old new
  pub passes : Passes w w'

-- ---- the tree

-- the next sequence number is used
abbrev pub counted : Core → Core
counted c = record c { seqno = c.seqno + 1 }

-- memtables with a new active one of this id, where there is to be one
abbrev pub fronted : Bool → ℕ → List SeenMemtable → List SeenMemtable
fronted false id memtables = memtables
fronted true id memtables = new_memtable id ∷ memtables

-- the id that is drawn next then
abbrev pub next_id : Bool → ℕ → ℕ
next_id false id = id
next_id true id = id + 1

-- the tree with a new active memtable of the next id, where there is to be one
abbrev pub fresh_in : Bool → Core → Core
fresh_in false c = c
fresh_in true c = record c { memtables = new_memtable c.next_memtable ∷ c.memtables; next_memtable = c.next_memtable + 1 }

-- the tree after the commit of a super version
abbrev pub committed : SuperVersion → Core → Core
committed next c = record c { history = record { latest = next; older = versions_of c.history }; seqno = c.seqno + 1; visible_seqno = max c.visible_seqno (c.seqno + 1) }

-- the tree after a commit of unknown outcome: its reads stay
abbrev pub doubted : SuperVersion → Core → Core
doubted next c = record c { seqno = c.seqno + 1; lost = Some (next.version) }

-- the commit of a super version, with a new active memtable or not
pub record Commits (fresh : Bool) (next : SuperVersion) (r : Result Unit Error) (old new : Core) : Type 0 where
  pub ok : OnOk r (new ≡ committed next (fresh_in fresh old))
  pub unknown : IsErrOf r CommitUnknown → new ≡ doubted next old
  -- refused otherwise, it changes nothing but that the number may be used
  pub store : IsErrOf r Store → new ≡ counted old
  pub memory : IsErrOf r OutOfMemory → (new ≡ old) ⊎ (new ≡ counted old)
  pub numbers : IsErrOf r OutOfNumbers → (new ≡ old) × (2 ^ 63 ≤ old.seqno)
  pub only : IfErr r (λ e. ((e ≡ OutOfMemory) ⊎ (e ≡ Store)) ⊎ ((e ≡ CommitUnknown) ⊎ (e ≡ OutOfNumbers)))
