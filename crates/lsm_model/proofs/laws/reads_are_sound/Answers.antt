use Rattle.lsm_model.proofs.Answers.{answers_agree}
use Rattle.lsm_model.proofs.Journals.{in_order_front}
use Rattle.lsm_model.proofs.Runs.{opened_holds, step_holds, run_holds, reads_right, view_right, answered_view}
use Rattle.lsm_model.proofs.DeedReads.{deeds_hold, commits_spare}
use Rattle.lsm_model.proofs.Spared.{stays, step_spares, writes_spare}
use Rattle.lsm_model.proofs.laws.reads_are_sound.Goals as goal

pub returns : goal.returns
returns c = record {
  kept = record { opened = opened_holds; step = step_holds; run = run_holds; deeds = deeds_hold; front = in_order_front };
  right = record { reads = reads_right; views = view_right; answers = answered_view; alike = answers_agree };
  spares = record { step = step_spares; writes = writes_spare; commits = commits_spare; same = stays };
}
