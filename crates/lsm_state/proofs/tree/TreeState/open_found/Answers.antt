use Rattle.std.proofs.Common.{subst}
use Rattle.lsm_model.specs.Views.{IsLaidOut}
use Rattle.lsm_versions.specs.Levels.{SeenVersion, IsVersion, placed_of}
use Rattle.lsm_state.specs.Opened.{store_left, files_told}
use Rattle.lsm_state.proofs.Standing.{found_of, starts_of, refused_of, passes_opened}
use Rattle.lsm_state.proofs.StandingImages.{stands_for, settles, again}
use Rattle.lsm_state.proofs.tree.TreeState.open_found.Goals as goal

pub returns-clause-opens : goal.returns-clause-opens
returns-clause-opens g c tells store first =
    let w = g.S.Store.world in
    let r = c.open.result in
    let all = c.open.ensures.opens tells store first in
    let left = c.open.ensures.leaves tells store first in
    let v = c.args.found.files.opened.version in
    let is = subst (λ (u : SeenVersion). IsVersion u.levels) c.version.ensures c.facts.ensures.is in
    let laid = subst (λ (u : SeenVersion). IsLaidOut (placed_of u.levels)) c.version.ensures c.facts.ensures.laid in
    record {
      shows = λ m stands. starts_of c.opening_starts.ensures c.found_tables_show.ensures.shows c.images_stand_once.ensures.map c.args.config v c.args.found.files.opened.next_table_id (w store).gives m stands r c.open.ensures.core (found_of w c.opening_finds.ensures store (store_left r) (files_told r) m stands all) is laid;
      refuses = λ m stands. refused_of (w store).gives stands.levels r (found_of w c.opening_finds.ensures store (store_left r) (files_told r) m stands all);
      stands_for = λ ready m. stands_for w store r left ready (c.openings_leave_what_was_read.ensures.meanwhile tells) m;
      settles = λ ready m stands. settles w store r (c.openings_leave_what_was_read.ensures.opened tells) ready m stands all;
      stored = λ ready. c.open.ensures.stored tells store first ready;
      again = λ ready. again w store r left ready (c.openings_leave_what_was_read.ensures.meanwhile tells) (g.met.S.Store.gives_one tells store);
      opens = all;
      leaves = left;
      passes = passes_opened w store r c.openings_pass.ensures all left;
    }
