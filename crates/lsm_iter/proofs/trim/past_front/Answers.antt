use Rattle.std.proofs.Common.{drop, subst, arith}
use Rattle.std.proofs.lemmas.List.{take_rest}
use Rattle.lsm_iter.specs.Trims.{Trims}
use Rattle.lsm_iter.specs.declared.tree_iter.End.TheVariants.{Front}
use Rattle.lsm_iter.proofs.Trims.{front_past}
use Rattle.lsm_iter.proofs.trim.past_front.Goals as goal

pub returns : goal.returns
returns c =
    let es = c.args.entries.now in
    let group = c.group_len-group.result in
    let rest = c.hidden_len.result in
    let past = front_past c.args.below es group rest c.requires.some c.requires.trimmed c.group_len-group.ensures.some c.group_len-group.ensures.cut (subst (λ l. Trims Front c.args.below l (drop rest l)) (take_rest es group) c.hidden_len.ensures.trims) in
    record {
      inside = omega arith;
      takes = past.0;
      trimmed = past.1;
    }
