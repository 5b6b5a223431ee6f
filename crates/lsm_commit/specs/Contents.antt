-- Files of tables that are written from their contents.
use Rattle.std.specs.Prelude.{◌≡◌, ℕ, ◌<◌, ◌^◌, List, map}
use Rattle.std.specs.List.{AllByRecursion}
use Rattle.lsm_store.specs.World.{World}
use Rattle.lsm_tables.specs.Image.{IsTable}
use Rattle.lsm_tables.specs.Tables.{SeenTable}
use Rattle.lsm_manifest.specs.Names.{table_name}
use Rattle.lsm_manifest.specs.Standing.{Pairwise}
use Rattle.lsm_commit.specs.Stored.{IsOnDisk, table_file, AreOnDisk}

-- the file of the table of this id is on the disk, with this content
pub record IsWritten (w : World) (id : ℕ) (content : List ℕ) : Type 0 where
  pub id_fits : id < 2 ^ 64
  pub file : IsOnDisk w (table_name id) content

-- there are as many ids as contents, and each content is written under the id in its place
abbrev pub AreWritten : World → List ℕ → List (List ℕ) → Type 0
AreWritten w ids contents = Pairwise (IsWritten w) ids contents

-- where the contents that are written are the files of tables, the tables are on the disk
abbrev pub FilesAreTables : World → Type 0
FilesAreTables w = (ids : List ℕ) (contents : List (List ℕ)) (tables : List SeenTable) → AreWritten w ids contents → map (λ t. t.id) tables ≡ ids → map table_file tables ≡ contents → AllByRecursion (λ t. IsTable t.entries) tables → AllByRecursion (λ t. t.created_at < 2 ^ 64) tables
    → AreOnDisk w tables
