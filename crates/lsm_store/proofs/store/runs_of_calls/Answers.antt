use Rattle.std.proofs.Common.{IsTrue}
use Rattle.lsm_store.specs.Moments.{started, rests, goes_on, joined}
use Rattle.lsm_store.proofs.store.runs_of_calls.Goals as goal

pub returns-clause-begins : goal.returns-clause-begins
returns-clause-begins g c tells p here = started (g.S.Store.world c.args.old.now) (λ image. IsTrue (p image)) (λ image left. here image (g.met.S.Store.only_now tells c.args.old.now image left))

pub returns-clause-rests : goal.returns-clause-rests
returns-clause-rests g c p = rests (g.S.Store.world c.args.old.now) (g.S.Store.world c.args.mid.now) (g.S.Store.world c.args.new.now) (λ image. IsTrue (p image))

pub returns-clause-goes_on : goal.returns-clause-goes_on
returns-clause-goes_on g c p name during after = goes_on (g.S.Store.world c.args.old.now) (g.S.Store.world c.args.mid.now) (g.S.Store.world c.args.new.now) (λ image. IsTrue (p image)) name (λ x. IsTrue (during x)) (λ x. IsTrue (after x))

pub returns-clause-joins : goal.returns-clause-joins
returns-clause-joins g c p q r = joined (g.S.Store.world c.args.old.now) (g.S.Store.world c.args.mid.now) (g.S.Store.world c.args.new.now) (λ image. IsTrue (p image)) (λ image. IsTrue (q image)) (λ image. IsTrue (r image))
