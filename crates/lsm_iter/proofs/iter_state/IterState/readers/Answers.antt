use Rattle.std.proofs.Common.{[], cond, map, option_to_list, subst}
use Rattle.lsm_iter.specs.Reads.{at, index_of, parts_at}
use Rattle.lsm_iter.specs.Left.{copied_within}
use Rattle.lsm_iter.specs.Puts.{PutsCursors, owned_of}
use Rattle.lsm_iter.proofs.Puts.{puts_all}
use Rattle.lsm_iter.proofs.iter_state.IterState.readers.Goals as goal

pub returns : goal.returns
returns g c =
    let low = c.args.bounds.now.0 in
    let high = c.args.bounds.now.1 in
    let s = c.args.snapshot in
    let copy = g.R.Reader.copies in
    let version = c.self.inside.version.now in
    let overlay = c.self.inside.overlay in
    let memtables = c.self.inside.memtables.items in
    let first = map g.R.Reader.seen c.push_index.new.readers.items in
    let second = map g.R.Reader.seen c.push_memtables.new.readers.items in
    let readers = map g.R.Reader.seen c.push_version.new.readers.items in
    subst (λ st. PutsCursors low high (parts_at s st) (cond copy (copied_within low high s st) 0) [] readers) c.self.view_is
    (puts_all low high s version memtables overlay [] first second readers copy
    (subst (λ old. PutsCursors low high (option_to_list (index_of overlay)) (owned_of copy low high (option_to_list (index_of overlay))) (map g.R.Reader.seen old) first) c.in_ok-readers.ensures.items c.in_ok-push_index.ensures)
    (subst (λ ms. PutsCursors low high (map (λ m. at s m.now.entries) ms) (owned_of copy low high (map (λ m. at s m.now.entries) ms)) first second) c.deref.ensures.value c.in_ok-push_memtables.ensures)
    c.in_ok-push_version.ensures)
