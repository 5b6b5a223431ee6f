use Rattle.std.proofs.Common.{[], sym, length, take, subst}
use Rattle.lsm_runs.specs.Dropping.{allowed}
use Rattle.example_crash.specs.Single.{HasLived}
use Rattle.example_crash.proofs.single.live_singly.Goals as goal

pub returns-clause-lives : goal.returns-clause-lives
returns-clause-lives g c allowance allows m may =
    let taken = c.take_each-taken.ensures.taken allowance allows m c.args.store c.args.from [] [] (c.in-Ok.ensures.opens allowance m may) in
    let told = c.take_each-taken.result.outcomes.items in
    subst (λ store. HasLived (allowed allowance) m c.args.store c.args.from (take (length told) c.args.steps.now) told store) (sym c.into_store.ensures) taken.lived
