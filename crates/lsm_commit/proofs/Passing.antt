-- A tree's own calls leave foreign names.
use Rattle.std.proofs.Common.{◌≡◌, ◌≢◌, ℕ, ◌<◌, ◌^◌, List, Result, Ok, Err, sym, ap, ◌∙◌}
use Rattle.lsm_below.specs.declared.error.Error.{Error}
use Rattle.lsm_store.specs.World.{World, LeavesOnly}
use Rattle.lsm_store.specs.Synced.{KeepsOthers, IsBeside}
use Rattle.lsm_store.specs.Moments.{weakened}
use Rattle.lsm_manifest.specs.declared.kinds.NameKind.TheVariants.{VersionFile, TableFile, Other}
use Rattle.lsm_manifest.specs.declared.persist.PersistError.{PersistError}
use Rattle.lsm_manifest.specs.declared.persist.PersistError.TheVariants.{OutOfMemory, Store, CommitUnknown}
use Rattle.lsm_manifest.specs.Names.{version_name, table_name}
use Rattle.lsm_manifest.specs.Kinds.{kind_of}
use Rattle.lsm_manifest.specs.Persist.{IsOldOrNew, KeepsRest, Persists}
use Rattle.lsm_manifest.specs.Told.{Told, TellsPersist, told_any}
use Rattle.lsm_commit.specs.Stored.{Keeps}
use Rattle.lsm_commit.specs.Writing.{IsElsewhere, KeepsElsewhere, IsKeptElsewhere}
use Rattle.lsm_commit.specs.Foreign.{IsForeign, KeepsForeign, Passes}

-- a call that changes one name, which is a tree's
pub passes_beside : (name : List ℕ) (old new : World) → ((n : List ℕ) → IsForeign n → n ≢ name) → KeepsOthers name old new → LeavesOnly old new (IsBeside name old) → Passes old new
passes_beside name old new other keeps leaves = record {
  gives = λ n foreign. keeps.gives n (other n foreign);
  may = λ n c foreign. (keeps.may n c (other n foreign)).0;
  leaves = weakened old new (IsBeside name old) (KeepsForeign old) leaves (λ image beside n foreign. beside n (other n foreign));
}

module _ (version_kind : (i : ℕ) → i < 2 ^ 64 → kind_of (version_name i) ≡ VersionFile) where
  pub not_version : (i : ℕ) → i < 2 ^ 64 → (n : List ℕ) → IsForeign n → n ≢ version_name i
  not_version i small n foreign e = let z : Other ≡ VersionFile = sym foreign.other ∙ (ap kind_of e ∙ version_kind i small) in absurd (cc z)

  -- a version becomes the current one, or may
  pub passes_persisted : {T : Type 0} (id : ℕ) (bytes : List ℕ) (old new : World) (r : Result T Error) → id < 2 ^ 64 → Told TellsPersist (Persists id bytes old new) r → LeavesOnly old new (IsOldOrNew id bytes old) → Passes old new
  passes_persisted {T} id bytes old new r small persists leaves =
      let keeps = told_any {T = T} TellsPersist (Persists id bytes old new) (Keeps IsForeign old new) r by_answer persists in record {
        gives = λ n foreign. keeps.gives n foreign;
        may = λ n c foreign. (keeps.may n c foreign).0;
        leaves = weakened old new (IsOldOrNew id bytes old) (KeepsForeign old) leaves (λ image one n foreign. one.elsewhere n (not_version id small n foreign) foreign.not_current);
      }
    where
      rest : KeepsRest id old new → Keeps IsForeign old new
      rest k = record { may = λ n c foreign. k.may n c (not_version id small n foreign) foreign.not_current; gives = λ n foreign. k.gives n (not_version id small n foreign) foreign.not_current }

      others : KeepsOthers (version_name id) old new → Keeps IsForeign old new
      others k = record { may = λ n c foreign. k.may n c (not_version id small n foreign); gives = λ n foreign. k.gives n (not_version id small n foreign) }

      by_answer : (q : Result T PersistError) → Persists id bytes old new q → Keeps IsForeign old new
      by_answer (Ok x) p = rest p.rest
      by_answer (Err OutOfMemory) p = others p
      by_answer (Err Store) p = others p
      by_answer (Err CommitUnknown) p = rest p.rest

module _ (table_kind : (i : ℕ) → i < 2 ^ 64 → kind_of (table_name i) ≡ TableFile i) where
  pub not_table : (i : ℕ) → i < 2 ^ 64 → (n : List ℕ) → IsForeign n → n ≢ table_name i
  not_table i small n foreign e = let z : Other ≡ TableFile i = sym foreign.other ∙ (ap kind_of e ∙ table_kind i small) in absurd (cc z)

  -- tables are written
  pub passes_tables : (first : ℕ) (old new : World) → KeepsElsewhere first old new → LeavesOnly old new (IsKeptElsewhere first old) → Passes old new
  passes_tables first old new keeps leaves = record {
    gives = λ n foreign. keeps.gives n (elsewhere n foreign);
    may = λ n c foreign. (keeps.may n c (elsewhere n foreign)).0;
    leaves = weakened old new (IsKeptElsewhere first old) (KeepsForeign old) leaves (λ image kept n foreign. kept n (elsewhere n foreign));
  }
    where
      elsewhere : (n : List ℕ) → IsForeign n → IsElsewhere first n
      elsewhere n foreign i le small = not_table i small n foreign
