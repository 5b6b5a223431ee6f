use Rattle.std.proofs.Common.{◌≡◌, ap, ◌∙◌}
use Rattle.lsm_below.specs.Keys.{Bytes}
use Rattle.lsm_below.specs.Ranges.{Range}
use Rattle.lsm_tables.specs.Tables.{first_key, last_key}
use Rattle.lsm_tables.proofs.Covering.{is_range, first_is, last_is}
use Rattle.lsm_tables.proofs.table.range_between.Goals as goal

pub new-requires : goal.new-requires
new-requires c =
    let es = c.args.entries.now in
    let a = c.index-entries-0.result in
    let b = c.index-entries-entries.result in
    let first : c.in_ok-share.field-0 ≡ first_key es = c.in_ok-share.ensures ∙ first_is es a c.requires.some in
    let last : c.in_ok-share-2.field-0 ≡ last_key es = c.in_ok-share-2.ensures ∙ last_is es b c.requires.some in
    rw (first, last) (is_range c.keys_are_ordered.ensures c.entries_are_ordered.ensures es c.requires.some c.requires.rises)

pub returns : goal.returns
returns c =
    let es = c.args.entries.now in
    let a = c.index-entries-0.result in
    let b = c.index-entries-entries.result in
    let first : c.in_ok-share.field-0 ≡ first_key es = c.in_ok-share.ensures ∙ first_is es a c.requires.some in
    let last : c.in_ok-share-2.field-0 ≡ last_key es = c.in_ok-share-2.ensures ∙ last_is es b c.requires.some in
    let range : Bytes → Bytes → Range = λ (x y : Bytes). record { min = x; max = y } in
    c.new-2.ensures ∙ ap (λ (x : Bytes). range x c.in_ok-share-2.field-0) first ∙ ap (range (first_key es)) last
