use Rattle.lsm_runs.specs.Dropping.{allowed}
use Rattle.lsm_log_runs.proofs.Lives.{all_go_well}
use Rattle.lsm_log_runs.proofs.life.any_number_of_logged_lives.Goals as goal

pub returns : goal.returns
returns g c told may was nexts lives = all_go_well (allowed may) g.S.Store.world (g.met.S.Store.only_now told) c.images_stand_once.ensures.found c.unread_names_dont_matter.ensures c.crashed_logs_open.ensures (c.openings_are_logged_lives.ensures told) was nexts lives
