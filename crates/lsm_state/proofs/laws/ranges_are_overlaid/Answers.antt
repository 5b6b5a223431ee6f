use Rattle.lsm_state.proofs.Overlaid.{Laws, is_overlaid, ranges_overlaid, prefixes_overlaid}
use Rattle.lsm_state.proofs.laws.ranges_are_overlaid.Goals as goal

pub returns : goal.returns
returns c =
    let laws : Laws = record { parts = c.parts_are_whole.ensures; view = c.shown_is_the_view.ensures.view; over = c.shown_is_the_view.ensures.overlaid } in
    record { counting = is_overlaid laws; ranges = ranges_overlaid laws; prefixes = prefixes_overlaid laws }
