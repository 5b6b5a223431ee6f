-- What stands for a map is opened as it.
use Rattle.std.proofs.Common.{◌≡◌, ℕ, ◌^◌, List, [], Result, Ok, Err, IfOk, IfErr, refl, sym, ap, ◌∙◌, subst}
use Rattle.std.proofs.lemmas.List.Concat.{flat_map-cons}
use Rattle.lsm_below.specs.Keys.{Bytes}
use Rattle.lsm_below.specs.Entries.{Entry, stack, IsOrdered, IsSingle}
use Rattle.lsm_below.specs.declared.error.Error.{Error}
use Rattle.lsm_store.specs.World.{Image, World}
use Rattle.lsm_model.specs.Journal.{Map}
use Rattle.lsm_model.specs.Views.{held, map_of, view, IsLaidOut}
use Rattle.lsm_model.specs.Steps.{IsOpened}
use Rattle.lsm_model.specs.Beginnings.{Stands, shown_by, OpeningStarts}
use Rattle.lsm_versions.specs.Levels.{Levels as SeenLevels, SeenVersion, placed_of, tables_shown, IsVersion}
use Rattle.lsm_versions.specs.declared.config.Config.{Config}
use Rattle.lsm_manifest.specs.declared.opening.Opened.{Opened}
use Rattle.lsm_manifest.specs.Opening.{Opens, OpensFiles, OpensNew, LeavesStanding}
use Rattle.lsm_manifest.specs.Told.{Told, TellsOpen, told_weaker}
use Rattle.lsm_manifest.specs.Finding.{Finds, StandsForMap, MapIsOne, OpeningFinds, OpensFound, RefusesFound, FoundTablesShow}
use Rattle.lsm_state.specs.Core.{Core, Seen, opened_core, state_of}
use Rattle.lsm_state.specs.Deeds.{saved_of, OpenedIsFresh}
use Rattle.lsm_commit.specs.Foreign.{Passes}
use Rattle.lsm_commit.specs.Opening.{OpeningsPass}
use Rattle.lsm_state.specs.Opened.{files_told, store_left, StartsWith}
use Rattle.lsm_state.proofs.Distinct.{distinct_placed}

-- ---- the tree

-- nothing is done yet
pub opened_fresh : OpenedIsFresh
opened_fresh config version next_table = record { journal = refl; number = refl; active = refl; sealed = refl; tables = refl; older = refl; notes = refl; others = refl }

-- the tree of a version with the tables that the image stands with starts with the map
pub starts_with : OpeningStarts → FoundTablesShow → MapIsOne → (config : Config) (v : SeenVersion) (next : ℕ) (image : Image) (m : Map) (stands : StandsForMap image m) → v.levels ≡ stands.levels → IsVersion v.levels → IsLaidOut (placed_of v.levels) → StartsWith m (opened_core config v next)
starts_with opening show once config v next image m stands same is laid =
    let tables = placed_of v.levels in
    let c = opened_core config v next in
    let stood : Stands tables = record {
      distinct = distinct_placed v.levels is.own_ids;
      laid = laid;
      ordered = subst (λ (ls : SeenLevels). IsOrdered (tables_shown ls)) (sym same) stands.ordered;
      single = subst (λ (ls : SeenLevels). (k : Bytes) → IsSingle (stack k (held (placed_of ls)))) (sym same) stands.single;
    } in
    let whole : m ≡ view (2 ^ 64) (tables_shown v.levels) = stands.shows ∙ sym (ap (λ (ls : SeenLevels). view (2 ^ 64) (tables_shown ls)) same) in
    let all : shown_by tables ≡ m = once image (shown_by tables) m (show image v.levels (subst (Finds image) (sym same) stands.found) stood) stands in
    record {
      shows = ap (map_of (2 ^ 64)) (flat_map-cons (λ (es : List Entry). es) [] (tables_shown v.levels)) ∙ sym whole;
      starts = subst (λ (n : Map). IsOpened (held tables) n (state_of [] c)) all (opening tables (saved_of [] [] c) stood (opened_fresh config v next)).opens;
      stands = stood;
      alone = all;
    }

-- ---- what an opening of what stands for a map answers

pub found_of : {S : Type 0} (world : S → World) → OpeningFinds S world → (old new : S) (r : Result Opened Error) (m : Map) (stands : StandsForMap (world old).gives m) → Told TellsOpen (Opens (world old) (world new)) r
    → OpensFound (world old).gives stands.levels r
found_of world finds old new r m stands all =
    let opens = Opens (world old) (world new) in
    finds old new stands.levels r stands.found
    (λ none there. told_weaker TellsOpen opens (OpensFiles (world old).gives) r (λ q o. o.opens none there) all)
    (λ none absent. told_weaker TellsOpen opens (OpensNew (world old) (world new)) r (λ q o. o.fresh none absent) all)

pub starts_of : {S : Type 0} → OpeningStarts → FoundTablesShow → MapIsOne → (config : Config) (v : SeenVersion) (next : ℕ) (image : Image) (m : Map) (stands : StandsForMap image m) (r : Result (Seen S) (Error × S))
    → IfOk r (λ t. t.core ≡ opened_core config v next) → OpensFound image stands.levels (files_told r) → IsVersion v.levels → IsLaidOut (placed_of v.levels) → IfOk r (λ t. StartsWith m t.core)
starts_of opening show once config v next image m stands (Ok t) core found is laid =
    let same : v.levels ≡ stands.levels = ap (λ (c : Core). c.history.latest.version.levels) (sym core) ∙ found in
    subst (λ (c : Core). StartsWith m c) (sym core) (starts_with opening show once config v next image m stands same is laid)
starts_of opening show once config v next image m stands (Err e) core found is laid = tt

pub refused_of : {S : Type 0} (image : Image) (ts : SeenLevels) (r : Result (Seen S) (Error × S)) → OpensFound image ts (files_told r) → IfErr r (λ e. RefusesFound image e.0)
refused_of image ts (Ok t) found = tt
refused_of image ts (Err e) found = found

-- names that are none of the tree's
pub passes_opened : {S : Type 0} (world : S → World) (store : S) (r : Result (Seen S) (Error × S)) → OpeningsPass S world → Told TellsOpen (Opens (world store) (world (store_left r))) (files_told r)
    → LeavesStanding (world store) (world (store_left r)) → IfOk r (λ t. Passes (world store) (world t.store))
passes_opened world store (Ok t) law opens leaves = law store t.store _ opens leaves
passes_opened world store (Err e) law opens leaves = tt
