use Rattle.lsm_state.proofs.opening.found.Found.open.Goals as goal

pub returns-in-Ok-clause-opens : goal.returns-in-Ok-clause-opens
returns-in-Ok-clause-opens g c tells first looks = rw (c.new-in-Ok.ensures, c.new-in-Ok-3.ensures) (c.in-Ok.ensures.opens tells first looks)

pub returns-in-Ok-clause-stored : goal.returns-in-Ok-clause-stored
returns-in-Ok-clause-stored g c tells first looks ready = rw (c.new-in-Ok.ensures) (c.opening_stores.ensures tells first c.finish_opening.new.store c.in-Ok.opened ready (c.in-Ok.ensures.opens tells first looks))
