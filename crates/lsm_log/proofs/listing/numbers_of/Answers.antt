use Rattle.std.proofs.Common.{◌≡◌, ◌++◌, ℕ, List, sym, ap, ◌∙◌}
use Rattle.std.specs.Option.{option_to_list}
use Rattle.std.specs.String.{string_bytes}
use Rattle.std.specs.declared.string.String.{String}
use Rattle.std.specs.declared.alloc.Global.{Global}
use Rattle.lsm_log.specs.LogNames.{number_in}
use Rattle.lsm_log.proofs.Listed.{kept_more}
use Rattle.lsm_log.proofs.listing.numbers_of.Goals as goal

pub loop-name-preserved : goal.loop-name-preserved
loop-name-preserved c =
    let names = c.args.names.now in
    let i = c.loop-name.name-index in
    let f = λ (s : String Global). number_in (string_bytes s) in
    let item : f c.name-item.result ≡ c.number_in.result = ap number_in (sym c.as_bytes.ensures.value) ∙ sym c.number_in.ensures in
    let more = kept_more f names i c.name-item.result c.number_in.result c.loop-name-test.true c.name-item.is item in
    c.in_ok-put_number.ensures ∙ ap (λ (l : List ℕ). l ++ option_to_list c.number_in.result) c.loop-name.invariant ∙ sym more
