use Rattle.lsm_runs.specs.Memory.{world_of}
use Rattle.lsm_runs.specs.Dropping.{allowed}
use Rattle.example_crash.proofs.Joining.{begun, one_more}
use Rattle.example_crash.proofs.Lived.{lived, answered}
use Rattle.example_crash.proofs.Taking.{took_one}
use Rattle.example_crash.proofs.laws.single_steps_join.Goals as goal

pub returns-clause-begins : goal.returns-clause-begins
returns-clause-begins g c may = begun (allowed may) world_of c.moments_join.ensures c.reads_are_sound.ensures.kept _

pub returns-clause-grows : goal.returns-clause-grows
returns-clause-grows g c may allows m was opened counter steps told is now s x t next new run right stays =
    one_more (allowed may) world_of c.moments_join.ensures c.reads_are_sound.ensures.kept m was opened counter steps told is now s x t next new (took_one (allowed may) world_of _ allows x t is next now new run right stays)

pub returns-clause-lives : goal.returns-clause-lives
returns-clause-lives g c may m was opened counter steps told is now s = lived (allowed may) world_of m was opened counter steps told is now s c.rising_is_in_order.ensures c.order_without_reads.ensures

pub returns-clause-answers : goal.returns-clause-answers
returns-clause-answers g c may m was opened counter steps told is now s plain rise = answered (allowed may) world_of m was opened counter steps told is now s c.rising_is_in_order.ensures plain rise
