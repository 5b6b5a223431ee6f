use Rattle.std.proofs.Common.{◌∙◌, ap, subst, filter, option_to_list}
use Rattle.lsm_below.specs.Entries.{is_value}
use Rattle.lsm_below.specs.Sorted.{Rises}
use Rattle.lsm_iter.specs.Shown.{by_key}
use Rattle.lsm_iter.specs.Left.{end_item}
use Rattle.lsm_iter.specs.Cursors.{left_in}
use Rattle.lsm_iter.proofs.Alone.{rises_on}
use Rattle.lsm_iter.proofs.Steps.{takes_value}
use Rattle.lsm_iter.proofs.cursor.take_in.Goals as goal

pub returns-in-Copied-clause-rises : goal.returns-in-Copied-clause-rises
returns-in-Copied-clause-rises c = λ h. rises_on c.args.end c.in-Copied.list c.take.new.self c.take.result (subst (λ x. Rises by_key (left_in x)) c.in-Copied.is h) c.take.ensures.takes

pub returns : goal.returns
returns c =
    let old = left_in c.args.held.now in
    let new = left_in c.skip_in.new.held in
    record {
      takes = takes_value c.args.end old new c.in_ok-value.value c.skip_in.ensures.takes (c.in_ok-value.ensures.is ∙ ap (λ o. filter is_value (option_to_list o)) c.peek_in.ensures);
      rises = λ h. rises_on c.args.end old new (end_item c.args.end old) h c.skip_in.ensures.takes;
      owned = c.skip_in.ensures.owned;
      err = tt;
    }
