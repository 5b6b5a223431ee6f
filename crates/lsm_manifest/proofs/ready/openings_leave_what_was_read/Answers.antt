use Rattle.lsm_manifest.proofs.ReadyOpened.{opening_leaves, opened_leaves}
use Rattle.lsm_manifest.proofs.ready.openings_leave_what_was_read.Goals as goal

pub returns : goal.returns
returns g c =
    let w = g.S.Store.world in
    let store = g.met.S.Store in
    let first = c.no_image_begins_another.ensures in
    let plain = c.plain_numbers_are_read.ensures in
    record {
      meanwhile = λ tells old new ts ready finds left. opening_leaves first plain (w old) ts ready (store.gives_one tells old) finds (w new) left (store.counts_now tells new);
      opened = λ tells old new ts o ready finds opens image at. opened_leaves first plain (w old) ts ready (store.gives_one tells old) finds (w new) o opens image at;
    }
