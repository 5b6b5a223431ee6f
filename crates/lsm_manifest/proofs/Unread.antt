-- Names that opening doesn't read don't matter.
use Rattle.std.proofs.Common.{◌≡◌, ℕ, ◌∙◌}
use Rattle.std.specs.List.{AllByRecursion}
use Rattle.lsm_store.specs.World.{Image}
use Rattle.lsm_tables.specs.Tables.{SeenTable}
use Rattle.lsm_versions.specs.Levels.{Levels as SeenLevels}
use Rattle.lsm_manifest.specs.declared.recovered_table.RecoveredTable.{RecoveredTable}
use Rattle.lsm_manifest.specs.Names.{table_name}
use Rattle.lsm_manifest.specs.Recovery.{Levels}
use Rattle.lsm_manifest.specs.Standing.{Pairwise, IsTableAt, HasGoodNames, StandsFor}
use Rattle.lsm_manifest.specs.Finding.{Finds, Named, Nothing, AgreesInRead, UnreadNamesDontMatter}
use Rattle.lsm_manifest.proofs.Pins.{over}

module _ (a b : Image) (same : AgreesInRead a b) where
  good_names : HasGoodNames a → HasGoodNames b
  good_names good = record { no_version = same.no_version ∙ good.no_version; in_tables = λ n bad. same.in_tables n bad ∙ good.in_tables n bad }

  table_too : (t : RecoveredTable) (u : SeenTable) → b (table_name t.id) ≡ a (table_name t.id) → b (table_name t.id) ≡ a (table_name t.id) → IsTableAt a t u → IsTableAt b t u
  table_too t u e again at = record { id = at.id; bytes = at.bytes; file = e ∙ at.file; summed = at.summed; reads = at.reads }

  stands_too : (id : ℕ) (ls : Levels) (ts : SeenLevels) → StandsFor a id ls ts → StandsFor b id ls ts
  stands_too id ls ts s =
      let Same = λ (t : RecoveredTable). b (table_name t.id) ≡ a (table_name t.id) in
      let each = same.tables id ls s.named in
      let one = over Same Same (IsTableAt a) (IsTableAt b) table_too in
      let two = over (λ r. AllByRecursion Same r) (λ r. AllByRecursion Same r) (Pairwise (IsTableAt a)) (Pairwise (IsTableAt b)) one in
      record {
        named = record { id_fits = s.named.id_fits; bytes = s.named.bytes; current = same.current ∙ s.named.current; version = same.version id ls s.named ∙ s.named.version; reads = s.named.reads };
        tables = over (λ l. AllByRecursion (λ r. AllByRecursion Same r) l) (λ l. AllByRecursion (λ r. AllByRecursion Same r) l) (Pairwise (Pairwise (IsTableAt a))) (Pairwise (Pairwise (IsTableAt b))) two ls ts each each s.tables;
        runs = s.runs;
        names = good_names s.names;
      }

  found_too : (ts : SeenLevels) → Finds a ts → Finds b ts
  found_too ts (Named id ls s) = Named id ls (stands_too id ls ts s)
  found_too ts (Nothing none good e) = Nothing (same.current ∙ none) (good_names good) e

pub unread : UnreadNamesDontMatter
unread a b same = (found_too a b same, λ m s. record { levels = s.levels; found = found_too a b same s.levels s.found; ordered = s.ordered; single = s.single; shows = s.shows })
