-- What is known of the files of a tree, as the theory of life after life asks it.
use Rattle.std.proofs.Common.{◌≡◌, ℕ, List, [], ◌∷◌, sym}
use Rattle.std.specs.List.{AllByRecursion}
use Rattle.std.specs.Prelude.{codes}
use Rattle.lsm_store.specs.World.{Image, World, Begins}
use Rattle.lsm_model.specs.Journal.{Map}
use Rattle.lsm_manifest.specs.Finding.{StandsForMap, MapIsOne, AgreesInRead, UnreadNamesDontMatter}
use Rattle.lsm_manifest.specs.Ready.{IsReady}
use Rattle.lsm_manifest.specs.Names.{current_name, version_name, table_name}
use Rattle.lsm_run_model.specs.Lives.{Resumes, Reads}
use Rattle.lsm_runs.specs.Moments.{Reopens}
use Rattle.lsm_runs.proofs.Readiness.{less_ready}

every : {A : Type 0} (P : A → Type 0) → ((x : A) → P x) → (xs : List A) → AllByRecursion P xs
every P f [] = tt
every P f (x ∷ xs) = (f x, every P f xs)

-- images that have the same of each name
agree : (a b : Image) → ((n : List ℕ) → b n ≡ a n) → AgreesInRead a b
agree a b same = record {
  current = same current_name;
  version = λ id ls named. same (version_name id);
  tables = λ id ls named. every _ (λ l. every _ (λ r. every _ (λ t. same (table_name t.id)) r) l) ls;
  no_version = same (codes "version");
  in_tables = λ n refused. same n;
}

module _ (unread : UnreadNamesDontMatter) where
  moved : (n : ℕ) (a b : Image) (m : Map) → ((name : List ℕ) → b name ≡ a name) → Reopens n a m → Reopens n b m
  moved n a b m same shows = record {
    stands = (unread a b (agree a b same)).1 m shows.stands;
    below = λ levels found. shows.below levels ((unread b a (agree b a (λ name. sym (same name)))).0 levels found);
  }

-- whether opening takes a store is a matter of the files
taken_again : (old new : World) → Resumes old new → IsReady old → IsReady new
taken_again old new r ready = less_ready old new (λ image is n. (r.may n (image n)).0 (is n)) ready

pub tree_reads : {F : Type 0} (world : F → World) (n : ℕ) → ((s : F) (image : Image) (m : Map) → StandsForMap image m → Begins image (world s) → IsReady (world s)) → UnreadNamesDontMatter → MapIsOne → Reads IsReady (Reopens n) world
tree_reads world n takes unread once = record {
  crashes = λ store image m shows begins. (takes store image m shows.stands begins, moved unread n image (world store).gives m begins.gives shows);
  resumes = λ old new r. taken_again (world old) (world new) r;
  same = moved unread n;
  once = λ image a b x y. once image a b x.stands y.stands;
}
