use Rattle.std.proofs.Common.{arith, length, drop}
use Rattle.lsm_below.proofs.Queues.{written_back}
use Rattle.lsm_below.proofs.merger.MergerSource.next_entry.Goals as goal

pub invariant_of-self-inside : goal.invariant_of-self-inside
invariant_of-self-inside g c =
    let me = c.self.inside in
    let slots = written_back me.slots.len c.pull.new.slots (drop (length c.pull.new.slots) me.slots.items) (omega arith) in
    let q = (rw c.in-Some-Ok.field-0-is at c.in-Some-Ok.ensures.queue) in
    (λ _. rw slots q, tt)
