use Rattle.std.proofs.Common.{◌∷◌, length, option_to_list, refl, ap, ◌∙◌, subst}
use Rattle.lsm_iter.specs.Reads.{counted_at, index_of}
use Rattle.lsm_iter.specs.Left.{copied_within}
use Rattle.lsm_state.specs.Copies.{IsReading}
use Rattle.lsm_state.specs.Core.{shown_as}
use Rattle.lsm_state.proofs.Counted.{counted_is}
use Rattle.lsm_state.proofs.Those.{copied_those}
use Rattle.lsm_state.proofs.tree.TreeState.state_at.Goals as goal

pub returns-clause-ok : goal.returns-clause-ok
returns-clause-ok g c =
    let mems = c.self.inside.memtables in
    let sv = shown_as c.in_ok-version.version.now in
    let list = c.in_ok-list.list.items in
    let index = c.args.index in (
      sv,
      c.in_ok-version.ensures.ok,
      subst (λ t. IsReading t.core.memtables index sv c.new.result) c.self.view_is (record {
        counts = λ s. ap (counted_at s) c.new.ensures ∙ counted_is s c.in_ok-version.version.now mems list (c.in_ok-list.ensures (λ es. es) refl) index;
        copied = λ low high s. ap (copied_within low high s) c.new.ensures ∙ ap length (copied_those mems (sv.active ∷ sv.sealed) list low high s (option_to_list (index_of index)) c.in_ok-list.ensures);
      }),
    )
