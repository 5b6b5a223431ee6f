use Rattle.std.proofs.Common.{◌≡◌, option_copied, IfSome, IfNone, ap, subst, ◌∙◌}
use Rattle.lsm_below.specs.Entries.{top}
use Rattle.lsm_below.specs.Lookups.{IsTop, HasNone}
use Rattle.lsm_tables.specs.Tables.{SeenTable}
use Rattle.lsm_tables.specs.declared.table.TableInner.{TableInner}
use Rattle.lsm_tables.proofs.table.Table.get.Goals as goal

pub returns-clause-is : goal.returns-clause-is
returns-clause-is c =
    let seen = ap (λ (t : TableInner). t.entries.items) c.deref.ensures ∙ ap (λ (t : SeenTable). t.entries) c.self.view_is in
    subst (λ (xs : _). option_copied c.find_in.result ≡ top c.args.key.now c.args.seqno xs) seen c.find_in.ensures.is

pub returns-clause-greatest : goal.returns-clause-greatest
returns-clause-greatest c =
    let seen = ap (λ (t : TableInner). t.entries.items) c.deref.ensures ∙ ap (λ (t : SeenTable). t.entries) c.self.view_is in
    subst (λ (xs : _). IfSome c.find_in.result (λ e. IsTop xs c.args.key.now c.args.seqno e.now)) seen c.find_in.ensures.greatest

pub returns-clause-none : goal.returns-clause-none
returns-clause-none c =
    let seen = ap (λ (t : TableInner). t.entries.items) c.deref.ensures ∙ ap (λ (t : SeenTable). t.entries) c.self.view_is in
    subst (λ (xs : _). IfNone c.find_in.result (HasNone xs c.args.key.now c.args.seqno)) seen c.find_in.ensures.none
