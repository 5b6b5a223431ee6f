use Rattle.lsm_iter.proofs.Answers.{is_view, is_answer, is_prefix_answer, is_overlaid}
use Rattle.lsm_iter.proofs.laws.shown_is_the_view.Goals as goal

pub returns : goal.returns
returns c = record {
  view = is_view c.maps_are_read.ensures;
  answer = is_answer c.maps_are_read.ensures;
  prefix_answer = is_prefix_answer c.maps_are_read.ensures;
  overlaid = is_overlaid c.maps_are_read.ensures c.parts_are_whole.ensures;
}
