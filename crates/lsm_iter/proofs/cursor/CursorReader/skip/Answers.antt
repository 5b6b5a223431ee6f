use Rattle.lsm_iter.specs.Cursors.{left_in}
use Rattle.lsm_iter.specs.Left.{end_item}
use Rattle.lsm_iter.proofs.Alone.{rises_on}
use Rattle.lsm_iter.proofs.cursor.CursorReader.skip.Goals as goal

pub invariant_of-self : goal.invariant_of-self
invariant_of-self c = rises_on c.args.end (left_in c.self.inside.held) (left_in c.skip_in.new.held) (end_item c.args.end (left_in c.self.inside.held)) c.self.invariant c.skip_in.ensures.takes
