use Rattle.std.proofs.Common.{◌≡◌, ◌++◌, ◌∷◌, [], ℕ, List, map, sym, ap, subst, ◌∙◌}
use Rattle.std.specs.Global.{Vec}
use Rattle.std.proofs.lemmas.List.{map-append}
use Rattle.lsm_below.specs.Keys.{Bytes}
use Rattle.lsm_tables.proofs.Cutting.{IsUnderway, ends, goes_on}
use Rattle.lsm_tables.proofs.multi_writer.write_tables.Goals as goal

pub loop-rest-preserved : goal.loop-rest-preserved
loop-rest-preserved c =
    let table = c.split_table-table.result.0 in
    let behind = c.split_table-table.result.1 in
    let cuts = c.split_table-table.ensures in
    let bytes : List ℕ = c.in_ok-encode_parts.field-0.items in
    let seen = λ (v : Vec ℕ). v.items in
    let before : List Bytes = map seen c.loop-rest.images.items in
    let pushed : map seen c.push.new.self.items ≡ before ++ bytes ∷ [] = ap (map seen) c.in_ok-push.ensures.items ∙ map-append seen c.loop-rest.images.items (c.in_ok-encode_parts.field-0 ∷ []) in
    subst (λ (images : List Bytes). IsUnderway c.args.target c.args.made_at c.args.entries.now images behind) (sym pushed)
    (goes_on c.args.target c.args.made_at c.args.entries.now before c.loop-rest.rest table behind bytes c.loop-rest.invariant cuts.table cuts.writable cuts.cut c.in_ok-encode_parts.ensures)

pub returns : goal.returns
returns c = ends c.args.target c.args.made_at c.args.entries.now _ c.loop-rest.rest c.loop-rest.invariant (c.is_empty.ensures.0 c.loop-rest-test.false)
