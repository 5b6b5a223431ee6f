use Rattle.lsm_model.proofs.Merges.{rearranged_same}
use Rattle.lsm_model.proofs.Runs.{part_falls}
use Rattle.lsm_model.proofs.laws.tables_are_placed.Goals as goal

pub returns : goal.returns
returns c = record { same = λ k old new covers laid same. rearranged_same k old new laid covers same; falls = part_falls }
