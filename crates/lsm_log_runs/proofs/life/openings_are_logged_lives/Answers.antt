use Rattle.lsm_log_runs.proofs.EndedOpening.{goes_on}
use Rattle.lsm_log_runs.proofs.life.openings_are_logged_lives.Goals as goal

pub returns : goal.returns
returns g c tells =
    goes_on g.S.Store.world c.images_stand_once.ensures.found c.unread_names_dont_matter.ensures c.found_tables_show.ensures.shows (λ store. c.crashes_settle.ensures.ready store) (λ store. c.logs_can_be_settled.ensures.left store)
